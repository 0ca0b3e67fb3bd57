use Rattle.std.proofs.Common.{◌≡◌, length, map}
use Rattle.std.specs.List.{range_with_len}
use Rattle.grid_core.specs.Parts.{column_span}
use Rattle.colour_rows.proofs.spans.Spans.of.Given as goal

abbrev pub invariant-loop-column : goal.invariant-loop-column
invariant-loop-column l =
    (l.low.items ≡ map (λ c. (column_span l.grid c).low) (range_with_len 0 l.column))
    × (l.high.items ≡ map (λ c. (column_span l.grid c).high) (range_with_len 0 l.column))
    × (length l.low.items ≡ l.column)
    × (length l.high.items ≡ l.column)
