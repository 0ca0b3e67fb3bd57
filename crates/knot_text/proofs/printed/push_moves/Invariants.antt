use Rattle.std.proofs.Common.{◌≡◌, ◌++◌, map, take}
use Rattle.text_lines.specs.Spelled.{lines_text}
use Rattle.knot_text.specs.Printed.{move_tokens}
use Rattle.knot_text.proofs.printed.push_moves.Given as goal

abbrev pub invariant-loop-step : goal.invariant-loop-step
invariant-loop-step l = l.out.items ≡ l.fn.out.items ++ lines_text (map move_tokens (take l.step-index l.moves))
