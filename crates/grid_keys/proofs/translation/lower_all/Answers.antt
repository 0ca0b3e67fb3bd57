use Rattle.std.proofs.Common.{◌∙◌, ◌<◌, ℕ, ap, set, sym, subst, arith}
use Rattle.std.specs.Prelude.{slice_index}
use Rattle.std.proofs.lemmas.List.{get_or_default}
use Rattle.std.proofs.lemmas.List.Edits.{map_over_more}
use Rattle.grid_moves.specs.Shift.{shifted}
use Rattle.grid_laws.proofs.InPlace.{still_there}
use Rattle.grid_keys.proofs.translation.lower_all.Goals as goal

pub number_after_shift-requires-clause-inside : goal.number_after_shift-requires-clause-inside
number_after_shift-requires-clause-inside c =
    subst (λ (z : ℕ). z < c.args.size)
    (sym (still_there (shifted c.args.size c.args.by) c.args.rows.now c.loop-place.rows c.loop-place.place (omega arith) c.loop-place.invariant))
    (c.requires.inside c.loop-place.place 0 (omega arith))

pub loop-place-preserved : goal.loop-place-preserved
loop-place-preserved c =
    let xs = c.args.rows.now in
    let ys = c.loop-place.rows in
    let i = c.loop-place.place in
    let x = slice_index ys i in
    ap (set ys i) c.number_after_shift.ensures
    ∙ map_over_more (shifted c.args.size c.args.by) xs ys i x (omega arith) c.loop-place.invariant
    (get_or_default ys i 0 x (omega (arith, c.loop-place.auto.rows)))
