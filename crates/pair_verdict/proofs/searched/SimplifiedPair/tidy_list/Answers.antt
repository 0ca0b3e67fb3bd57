use Rattle.std.proofs.Common.{◌∙◌, List, ap, sym, subst}
use Rattle.std.proofs.lemmas.Result.{IfOk-weaker}
use Rattle.grid_core.specs.Diagram.{size}
use Rattle.grid_moves.specs.declared.step.Move.{Move}
use Rattle.grid_moves.specs.Joining.{Joins, JoinsWithin}
use Rattle.grid_moves.proofs.Within.{within_joins}
use Rattle.grid_canon.specs.Tidied.{tidied}
use Rattle.pair_verdict.proofs.searched.SimplifiedPair.tidy_list.Goals as goal

pub tidy-requires : goal.tidy-requires
tidy-requires c =
    let p = c.args.given.now in (
      p.second,
      subst (λ (ms : List Move). Joins p.first ms p.second) (sym c.as_slice.ensures.value)
          (within_joins p.cap c.in_ok-whole.whole.items p.first p.second c.in_ok-whole.ensures.joins),
    )

pub returns-clause-whole : goal.returns-clause-whole
returns-clause-whole c =
    IfOk-weaker c.tidy.result _ _ (λ list is. (
      c.in_ok-whole.whole.items,
      (c.in_ok-whole.ensures.whole, is ∙ ap (λ (ms : List Move). tidied (size c.args.given.now.first) 0 0 ms) c.as_slice.ensures.value),
    )) c.tidy.ensures.is

pub returns-clause-joins : goal.returns-clause-joins
returns-clause-joins c =
    let p = c.args.given.now in
    IfOk-weaker c.tidy.result _ _ (λ list within. within p.cap p.second
    (subst (λ (ms : List Move). JoinsWithin p.cap p.first ms p.second) (sym c.as_slice.ensures.value) c.in_ok-whole.ensures.joins)) c.tidy.ensures.within
