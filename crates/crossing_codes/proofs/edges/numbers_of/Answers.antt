use Rattle.std.proofs.Common.{◌∙◌, length-set, arith}
use Rattle.crossing_codes.proofs.Slots.{first_more}
use Rattle.crossing_codes.proofs.edges.numbers_of.Goals as goal

pub loop-number-preserved : goal.loop-number-preserved
loop-number-preserved c =
    let n = c.loop-number.number in
    let long = c.loop-number.invariant.0 in
    let within = c.slot.ensures.within in (
      length-set c.loop-number.numbers c.slot.result n ∙ long,
      first_more c.args.passages.now c.loop-number.numbers n c.slot.result _ c.requires.inside c.requires.apart c.loop-number-test.true
          (omega arith) c.slot.ensures.is c.loop-number.invariant.1,
    )
