use Rattle.std.proofs.Common.{◌≡◌, map}
use Rattle.std.specs.List.{range_with_len}
use Rattle.grid_core.specs.Parts.{ends}
use Rattle.next_moves.proofs.spans.Spans.of_rows.Given as goal

abbrev pub invariant-loop-r : goal.invariant-loop-r
invariant-loop-r l = record {
  lows : l.spans.lows.items ≡ map (λ k. (ends l.grid k).low) (range_with_len 0 l.r);
  highs : l.spans.highs.items ≡ map (λ k. (ends l.grid k).high) (range_with_len 0 l.r);
}
