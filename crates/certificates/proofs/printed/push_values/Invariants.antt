use Rattle.std.proofs.Common.{◌≡◌, ◌++◌, map}
use Rattle.std.specs.List.{range_with_len}
use Rattle.text_lines.specs.Spelled.{lines_text}
use Rattle.knot_text.specs.WrittenThere.{value_tokens}
use Rattle.certificates.proofs.printed.push_values.Given as goal

abbrev pub invariant-loop-x : goal.invariant-loop-x
invariant-loop-x l = l.out.items ≡ l.fn.out.items ++ lines_text (map (value_tokens l.cocycle) (range_with_len 0 l.x))
