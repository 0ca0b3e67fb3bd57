use Rattle.std.proofs.Common.{◌∙◌, Option, ℕ, None, get_or, sym, ap, arith}
use Rattle.std.proofs.lemmas.List.Sums.{fold_more}
use Rattle.code_rows.proofs.Pairs.{seen}
use Rattle.code_rows.proofs.rows_fault.least_unpaired.Goals as goal

pub loop-name-preserved : goal.loop-name-preserved
loop-name-preserved c =
    let names = c.args.names.now in
    c.after_name-least.ensures
    ∙ (ap (λ (o : Option ℕ). seen names o (get_or names c.loop-name.name-index 0)) c.loop-name.invariant
    ∙ sym (fold_more (seen names) None names c.loop-name.name-index 0 (omega arith)))
