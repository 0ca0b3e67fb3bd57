use Rattle.std.proofs.Common.{◌≡◌, map}
use Rattle.std.specs.List.{range_with_len}
use Rattle.quandle_core.specs.Quandle.{over}
use Rattle.knot_text.proofs.printed.row_of.Given as goal

abbrev pub invariant-loop-y : goal.invariant-loop-y
invariant-loop-y l = l.row.items ≡ map (over l.quandle l.x) (range_with_len 0 l.y)
