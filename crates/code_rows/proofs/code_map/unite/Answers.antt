use Rattle.std.proofs.Common.{◌∙◌, ◌==◌, ℕ, ap, cond, set, arith, min, max}
use Rattle.std.specs.Prelude.{slice_index}
use Rattle.std.proofs.lemmas.List.{get_or_default}
use Rattle.std.proofs.lemmas.List.Edits.{map_over_more}
use Rattle.code_rows.proofs.code_map.unite.Goals as goal

pub loop-place-preserved : goal.loop-place-preserved
loop-place-preserved c =
    let xs = c.args.numbers.now in
    let ys = c.loop-place.numbers in
    let i = c.loop-place.place in
    let x = slice_index ys i in
    ap (set ys i) c.after_uniting.ensures
    ∙ map_over_more (λ (k : ℕ). cond (k == max c.args.one c.args.other) (min c.args.one c.args.other) k) xs ys i x (omega arith) c.loop-place.invariant
    (get_or_default ys i 0 x (omega (arith, c.loop-place.auto.numbers)))
