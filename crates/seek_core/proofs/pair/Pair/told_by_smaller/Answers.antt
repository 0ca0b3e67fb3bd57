use Rattle.std.proofs.Common.{◌∙◌, sym}
use Rattle.seek_core.specs.Sizes.{is_smaller}
use Rattle.seek_core.proofs.LargerLast.{one_tells}
use Rattle.seek_core.proofs.pair.Pair.told_by_smaller.Goals as goal

pub returns-then-is_some : goal.returns-then-is_some
returns-then-is_some c =
    one_tells c.args.self.now.first c.args.self.now.second c.args.self.now.seeds is_smaller c.args.blocks.now c.loop-block.block-index c.block-item.result
    c.in_ok-evidence.evidence c.loop-block-test.true c.block-item.is c.in_ok-evidence.ensures (sym c.is_some.ensures ∙ c.if-is_some.true)
    c.loop-block.invariant
