use Rattle.std.proofs.Common.{take}
use Rattle.seek_call.specs.Blocks.{AreBlocksOf}
use Rattle.seek_call.proofs.blocks.read_blocks.Given as goal

abbrev pub invariant-loop-path : goal.invariant-loop-path
invariant-loop-path g l = AreBlocksOf (g.F.Texts.told l.files) (take l.path-index l.asked.weights.items) l.blocks
