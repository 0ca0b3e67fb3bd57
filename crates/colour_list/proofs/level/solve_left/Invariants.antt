use Rattle.std.proofs.Common.{◌≡◌, ◌++◌, take, drop, map}
use Rattle.colour_list.specs.Level.{with_left}
use Rattle.colour_list.proofs.level.solve_left.Given as goal

abbrev pub invariant-loop-i : goal.invariant-loop-i
invariant-loop-i l = l.level.items ≡ map (with_left l.quandle l.row) (take l.i l.fn.level.items) ++ drop l.i l.fn.level.items
