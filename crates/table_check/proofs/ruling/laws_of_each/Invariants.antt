use Rattle.std.proofs.Common.{take}
use Rattle.std.specs.List.{All}
use Rattle.quandle_core.specs.Quandle.{IsQuandle}
use Rattle.colour_numbers.specs.Numbers.{IsCocycleOrNone}
use Rattle.evidence_core.specs.declared.blocks.Block.{Block}
use Rattle.table_check.proofs.ruling.laws_of_each.Given as goal

abbrev pub invariant-loop-block : goal.invariant-loop-block
invariant-loop-block l = All (λ (b : Block). IsQuandle b.listed.table) (take l.block-index l.blocks)
    × All (λ (b : Block). IsCocycleOrNone b.cocycle) (take l.block-index l.blocks)
