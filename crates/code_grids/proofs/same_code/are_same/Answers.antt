use Rattle.std.proofs.Common.{◌<◌, ◌∙◌, false, length, get_or, ap, arith, below_more}
use Rattle.std.proofs.lemmas.List.{get_or_default}
use Rattle.crossing_codes.specs.declared.crossing.Crossing.{Crossing}
use Rattle.code_grids.specs.Renaming.{renamed}
use Rattle.code_grids.proofs.same_code.are_same.Goals as goal

pub loop-k-preserved : goal.loop-k-preserved
loop-k-preserved c =
    let ones = c.args.ones.now in
    let twos = c.args.twos.now in
    let k = c.loop-k.k in
    let to = get_or c.args.crossings.now k 0 in
    let none : Crossing = record { first = 0; second = 0; third = 0; fourth = 0; positive = false } in
    let long = c.requires.long in
    let within : k < length ones = c.loop-k-test.true in
    let inside : to < length twos = c.requires.inside k (omega arith) in
    below_more _ _ c.loop-k.invariant (λ d.
    ap (renamed c.args.names.now) (get_or_default ones k d none within)
    ∙ (c.becomes.ensures.0 c.if-not-becomes.false ∙ get_or_default twos to none d inside))
