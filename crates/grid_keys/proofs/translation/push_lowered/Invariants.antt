use Rattle.std.proofs.Common.{◌≡◌, ◌++◌, map, take}
use Rattle.grid_moves.specs.Shift.{shifted}
use Rattle.grid_keys.proofs.translation.push_lowered.Given as goal

abbrev pub invariant-loop-row : goal.invariant-loop-row
invariant-loop-row l = l.list.items ≡ l.initial.list.items ++ map (shifted l.size l.by) (take l.row-index l.rows)
