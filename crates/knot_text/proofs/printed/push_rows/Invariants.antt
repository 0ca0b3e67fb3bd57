use Rattle.std.proofs.Common.{◌≡◌, ◌++◌, map}
use Rattle.std.specs.List.{range_with_len}
use Rattle.text_lines.specs.Spelled.{lines_text}
use Rattle.knot_text.specs.Printed.{row_tokens}
use Rattle.knot_text.proofs.printed.push_rows.Given as goal

abbrev pub invariant-loop-x : goal.invariant-loop-x
invariant-loop-x l = l.out.items ≡ l.fn.out.items ++ lines_text (map (row_tokens l.quandle) (range_with_len 0 l.x))
