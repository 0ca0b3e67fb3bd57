use Rattle.std.proofs.Common.{◌≡◌, map, take}
use Rattle.grid_core.specs.Diagram.{size}
use Rattle.grid_moves.specs.Shift.{shifted}
use Rattle.grid_moves.proofs.shift.shifted_rows.Given as goal

abbrev pub invariant-loop-row : goal.invariant-loop-row
invariant-loop-row l = l.rows.items ≡ map (shifted (size l.grid) l.k) (take l.row-index l.row-items)
