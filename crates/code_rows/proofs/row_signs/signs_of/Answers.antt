use Rattle.std.proofs.Common.{◌∙◌, List, Bool, ap, sym, subst, map, length, arith}
use Rattle.code_rows.specs.declared.row_signs.Tie.{Tie}
use Rattle.code_rows.specs.RowSigns.{value_of, chosen_values, AreBest}
use Rattle.code_rows.proofs.InRange.{names_long}
use Rattle.code_rows.proofs.Best.{best_signs}
use Rattle.code_rows.proofs.row_signs.signs_of.Goals as goal

pub values_of-requires : goal.values_of-requires
values_of-requires c = let long = ap length c.in_ok-names.ensures ∙ names_long c.args.rows.now in omega (arith, long, c.requires)

pub returns : goal.returns
returns c =
    let rows = c.args.rows.now in
    let values = c.as_slice-5.result.now in
    subst (λ (bs : List Bool). AreBest rows bs)
    (sym (c.in_ok-signs.ensures
    ∙ ap (λ (ts : List Tie). map (value_of (chosen_values (length ts) values)) ts) c.as_slice-4.ensures.value))
    (best_signs rows c.in_ok-ties.ties.items values c.in_ok-ties.ensures)
