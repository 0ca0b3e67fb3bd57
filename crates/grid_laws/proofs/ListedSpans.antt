-- The lists of all lower ends and all higher ends: at each place, the span is the one between them.
use Rattle.std.proofs.Common.{◌≡◌, ◌<◌, ℕ, map, ap₂, sym, zero-add}
use Rattle.std.specs.Prelude.{slice_index}
use Rattle.std.specs.List.{range_with_len}
use Rattle.std.proofs.lemmas.List.FromFn.{get_or-map-range_with_len}
use Rattle.grid_core.specs.declared.span.Span.{Span}
use Rattle.grid_core.specs.Diagram.{Diagram, size}
use Rattle.grid_core.specs.Parts.{column_span, ends, column_lows, column_highs, row_lows, row_highs}

pub span_at_place : (f : ℕ → Span) (n k : ℕ) → k < n
    → f k ≡ record {
      low = slice_index (map (λ i. (f i).low) (range_with_len 0 n)) k;
      high = slice_index (map (λ i. (f i).high) (range_with_len 0 n)) k;
    }
span_at_place f n k lt =
    sym (ap₂ (λ (z w : ℕ). made z w) (get_or-map-range_with_len (λ i. (f i).low) 0 n k k 0 lt (zero-add k))
    (get_or-map-range_with_len (λ i. (f i).high) 0 n k k 0 lt (zero-add k)))
  where
    made : ℕ → ℕ → Span
    made z w = record { low = z; high = w }

pub column_at_place : (d : Diagram) (c : ℕ) → c < size d
    → column_span d c ≡ record { low = slice_index (column_lows d) c; high = slice_index (column_highs d) c }
column_at_place d c lt = span_at_place (λ k. column_span d k) (size d) c lt

pub row_at_place : (d : Diagram) (r : ℕ) → r < size d → ends d r ≡ record { low = slice_index (row_lows d) r; high = slice_index (row_highs d) r }
row_at_place d r lt = span_at_place (λ k. ends d k) (size d) r lt
