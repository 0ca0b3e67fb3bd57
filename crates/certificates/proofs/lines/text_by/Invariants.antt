use Rattle.std.proofs.Common.{◌≡◌, take}
use Rattle.std.specs.List.{flat_map}
use Rattle.certificates.specs.Lines.{block_text}
use Rattle.certificates.proofs.lines.text_by.Given as goal

abbrev pub invariant-loop-block : goal.invariant-loop-block
invariant-loop-block l = l.out.items ≡ flat_map (block_text l.grid l.seeding) (take l.block-index l.blocks)
