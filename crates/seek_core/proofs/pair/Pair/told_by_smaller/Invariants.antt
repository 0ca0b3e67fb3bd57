use Rattle.std.proofs.Common.{◌≡◌, drop}
use Rattle.number_search.specs.Told.{told_by_blocks}
use Rattle.seek_core.specs.Sizes.{smaller_blocks}
use Rattle.seek_core.proofs.pair.Pair.told_by_smaller.Given as goal

-- none of the blocks so far tells the diagrams apart
abbrev pub invariant-loop-block : goal.invariant-loop-block
invariant-loop-block l =
    told_by_blocks l.self.first l.self.second l.self.seeds (smaller_blocks (drop l.block-index l.blocks))
    ≡ told_by_blocks l.self.first l.self.second l.self.seeds (smaller_blocks l.blocks)
