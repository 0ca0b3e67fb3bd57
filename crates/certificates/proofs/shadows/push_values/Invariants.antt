use Rattle.std.proofs.Common.{◌≡◌, ◌++◌, map}
use Rattle.std.specs.List.{range_with_len}
use Rattle.text_lines.specs.Spelled.{lines_text}
use Rattle.knot_text.specs.Printed.{row_tokens}
use Rattle.certificates.specs.Shadows.{shadow_rows}
use Rattle.certificates.proofs.shadows.push_values.Given as goal

abbrev pub invariant-loop-k : goal.invariant-loop-k
invariant-loop-k l = record {
  written : l.out.items ≡ l.fn.out.items ++ lines_text (map (row_tokens (shadow_rows l.cocycle)) (range_with_len 0 l.k));
  order : l.order ≡ l.cocycle.quandle.order;
}
