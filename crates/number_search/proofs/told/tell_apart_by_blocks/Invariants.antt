use Rattle.std.proofs.Common.{◌≡◌, drop}
use Rattle.number_search.specs.Told.{told_by_blocks}
use Rattle.number_search.proofs.told.tell_apart_by_blocks.Given as goal

-- none of the blocks so far tells the diagrams apart
abbrev pub invariant-loop-block : goal.invariant-loop-block
invariant-loop-block l = told_by_blocks l.first l.second l.seeds (drop l.block-index l.blocks) ≡ told_by_blocks l.first l.second l.seeds l.blocks
