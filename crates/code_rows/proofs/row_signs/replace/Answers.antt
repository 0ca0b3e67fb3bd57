use Rattle.std.proofs.Common.{◌∙◌, ap, set, get_or, arith}
use Rattle.std.proofs.lemmas.List.{get_or_default}
use Rattle.std.proofs.lemmas.List.Edits.{map_over_more}
use Rattle.code_rows.specs.RowSigns.{replaced, no_tie}
use Rattle.code_rows.proofs.row_signs.replace.Goals as goal

pub loop-k-preserved : goal.loop-k-preserved
loop-k-preserved c =
    let xs = c.args.ties.now in
    let ys = c.loop-k.ties in
    let i = c.loop-k.k in
    let x = get_or ys i no_tie in
    ap (set ys i) c.replaced.ensures
    ∙ map_over_more (replaced c.args.from c.args.to c.args.turn) xs ys i x (omega arith) c.loop-k.invariant
    (get_or_default ys i no_tie x (omega (arith, c.loop-k.auto.ties)))
