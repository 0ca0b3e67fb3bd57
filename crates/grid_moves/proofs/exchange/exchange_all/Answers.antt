use Rattle.std.proofs.Common.{◌∙◌, ap, set, arith}
use Rattle.std.specs.Prelude.{slice_index}
use Rattle.std.proofs.lemmas.List.{get_or_default}
use Rattle.std.proofs.lemmas.List.Edits.{map_over_more}
use Rattle.grid_moves.specs.Exchange.{exchanged}
use Rattle.grid_moves.proofs.exchange.exchange_all.Goals as goal

pub loop-place-preserved : goal.loop-place-preserved
loop-place-preserved c =
    let xs = c.args.rows.now in
    let ys = c.loop-place.rows in
    let i = c.loop-place.place in
    let x = slice_index ys i in
    ap (set ys i) c.exchanged.ensures
    ∙ map_over_more (exchanged c.args.r) xs ys i x (omega arith) c.loop-place.invariant
    (get_or_default ys i 0 x (omega (arith, c.loop-place.auto.rows)))
