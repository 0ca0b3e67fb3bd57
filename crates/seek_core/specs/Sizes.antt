-- The order in which blocks are tried: those of larger quandles last.
use Rattle.std.specs.Prelude.{Bool, List, ◌++◌, nat_lt, not}
use Rattle.std.specs.List.{filter}
use Rattle.quandle_core.specs.declared.quandle.TheConstants.{MAX_ORDER}
use Rattle.evidence_core.specs.declared.blocks.Block.{Block}

-- more colours than MAX_ORDER
abbrev pub is_larger : Block → Bool
is_larger b = nat_lt MAX_ORDER b.listed.table.order

-- its quandle has at most MAX_ORDER colours
abbrev pub is_smaller : Block → Bool
is_smaller b = not (is_larger b)

-- the smaller blocks, in their order
abbrev pub smaller_blocks : List Block → List Block
smaller_blocks blocks = filter is_smaller blocks

-- the larger blocks, in their order
abbrev pub larger_blocks : List Block → List Block
larger_blocks blocks = filter is_larger blocks

-- the larger ones behind the smaller ones
abbrev pub as_tried : List Block → List Block
as_tried blocks = smaller_blocks blocks ++ larger_blocks blocks
