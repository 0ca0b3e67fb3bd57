-- The first reason why a code is that of no diagram in the plane.
use Rattle.std.specs.Prelude.{◌+◌, ◌*◌, ◌==◌, ◌&&◌, Bool, not, length, slice_index_or, nat_le, Option, Some, None, if◌then◌else◌}
use Rattle.grid_core.specs.Fault.{lowest, or_next}
use Rattle.crossing_codes.specs.declared.crossing.Code.{Code}
use Rattle.crossing_codes.specs.CodeColouring.{names_edges}
use Rattle.code_rows.specs.declared.code_fault.TheConstants.{MAX_CROSSINGS}
use Rattle.code_rows.specs.declared.code_fault.CodeFault.{CodeFault}
use Rattle.code_rows.specs.declared.code_fault.CodeFault.TheVariants.{Empty, Size, Count, Range, Edge, Plane}
use Rattle.code_rows.specs.JoinedEdges.{is_joined}
use Rattle.code_rows.specs.CodeMap.{no_crossing, is_plane}

-- the code has no crossing and no loop
abbrev pub is_empty : Code → Bool
is_empty c = (length c.crossings == 0) && (c.loops == 0)

-- empty, size, count, range, edge, plane, in this order
abbrev pub first_code_fault : Code → Option CodeFault
first_code_fault c =
    if is_empty c then Some Empty
    else if not (nat_le (length c.crossings) MAX_CROSSINGS) then Some Size
    else if not (c.edges == 2 * length c.crossings) then Some Count
    else or_next (lowest (λ k. not (names_edges c.edges (slice_index_or c.crossings k no_crossing))) (length c.crossings)) (λ k. Range k)
    (or_next (lowest (λ e. not (is_joined c.crossings (e + 1))) c.edges) (λ e. Edge (e + 1))
    (if is_plane c.crossings then None else Some Plane))
