-- Columns round a circle, given by the list of their low ends and the list of their high ends, and the masks over them.
use Rattle.std.specs.Prelude.{ℕ, ◌+◌, ◌%◌, ◌<◌, Bool, nat_lt, ◌==◌, ◌&&◌, List, length, slice_index}
use Rattle.std.specs.Int.{bit_at}
use Rattle.lane_spans.specs.Span.{Span, lies_strictly_between, may_trade_places}

-- bit c of the mask is set
abbrev pub has_bit : ℕ → ℕ → Bool
has_bit mask c = bit_at mask c == 1

-- the span of column c
abbrev pub span_at : List ℕ → List ℕ → ℕ → Span
span_at lo hi c = record { low = slice_index lo c; high = slice_index hi c }

-- of n columns on a circle, the neighbour of column c: the next one, and behind the last the first
abbrev pub neighbour_column : ℕ → ℕ → ℕ
neighbour_column n c = (c + 1) % n

-- in each column the low end is below the high one
abbrev pub AreSpans : List ℕ → List ℕ → Type 0
AreSpans lo hi = (c : ℕ) → c < length lo → slice_index lo c < slice_index hi c

-- c is a column, and the row lies strictly between its ends
abbrev pub lane_covers : List ℕ → List ℕ → ℕ → ℕ → Bool
lane_covers lo hi row c = nat_lt c (length lo) && lies_strictly_between row (span_at lo hi c)

-- c is a column that may trade places with its neighbour
abbrev pub trades : List ℕ → List ℕ → ℕ → Bool
trades lo hi c = nat_lt c (length lo)
    && may_trade_places (span_at lo hi c) (span_at lo hi (neighbour_column (length lo) c))
