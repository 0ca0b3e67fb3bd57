use Rattle.std.proofs.Common.{sym, subst, ℕ}
use Rattle.search_book.specs.declared.problem.Side.TheVariants.{First, Second}
use Rattle.search_book.specs.EntryList.{IsWithin}
use Rattle.search_book.specs.Sound.{IsProblem}
use Rattle.search_book.proofs.BeginSound.{root_within}
use Rattle.search_book.proofs.begin.admit_roots.Goals as goal

pub admit_forms-requires-clause-first : goal.admit_forms-requires-clause-first
admit_forms-requires-clause-first c =
    let form = c.canonical-first.result in
    let problem : IsProblem c.args.problem.now = record { first = c.size.ensures.grid; second = c.size-2.ensures.grid; bounded = c.requires.bounded } in
    subst (λ (n : ℕ). IsWithin n form.grid) (sym c.requires.columns) (root_within c.args.problem.now First form problem c.canonical-first.ensures.form)

pub admit_forms-requires-clause-second : goal.admit_forms-requires-clause-second
admit_forms-requires-clause-second c =
    let form = c.canonical-second.result in
    let problem : IsProblem c.args.problem.now = record { first = c.size.ensures.grid; second = c.size-2.ensures.grid; bounded = c.requires.bounded } in
    subst (λ (n : ℕ). IsWithin n form.grid) (sym c.requires.columns) (root_within c.args.problem.now Second form problem c.canonical-second.ensures.form)

pub returns-clause-problem : goal.returns-clause-problem
returns-clause-problem c = record { first = c.size.ensures.grid; second = c.size-2.ensures.grid; bounded = c.requires.bounded }

pub returns-clause-begins : goal.returns-clause-begins
returns-clause-begins c = record {
  first = c.canonical-first.result;
  second = c.canonical-second.result;
  of_first = c.canonical-first.ensures.form;
  of_second = c.canonical-second.ensures.form;
  opened = sym (c.admit_forms.ensures.opened c.args.problem.now);
}
