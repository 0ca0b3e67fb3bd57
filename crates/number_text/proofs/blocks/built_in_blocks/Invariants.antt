use Rattle.std.proofs.Common.{◌≡◌, take, map}
use Rattle.number_text.specs.Blocks.{alone}
use Rattle.number_text.proofs.blocks.built_in_blocks.Given as goal

abbrev pub invariant-loop-listed : goal.invariant-loop-listed
invariant-loop-listed l = l.blocks.items ≡ map alone (take l.listed-index l.listed-items)
