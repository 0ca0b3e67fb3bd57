use Rattle.std.proofs.Common.{◌≡◌, ◌++◌, take, drop, map}
use Rattle.colour_list.specs.Level.{with_right}
use Rattle.colour_list.proofs.level.solve_right.Given as goal

abbrev pub invariant-loop-i : goal.invariant-loop-i
invariant-loop-i l = l.level.items ≡ map (with_right l.quandle l.row) (take l.i l.fn.level.items) ++ drop l.i l.fn.level.items
