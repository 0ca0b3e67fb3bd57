use Rattle.std.proofs.Common.{◌≡◌, map}
use Rattle.std.specs.List.{range_with_len}
use Rattle.grid_core.specs.Parts.{column_span}
use Rattle.next_moves.proofs.spans.Spans.of_columns.Given as goal

abbrev pub invariant-loop-c : goal.invariant-loop-c
invariant-loop-c l = record {
  lows : l.spans.lows.items ≡ map (λ k. (column_span l.grid k).low) (range_with_len 0 l.c);
  highs : l.spans.highs.items ≡ map (λ k. (column_span l.grid k).high) (range_with_len 0 l.c);
}
