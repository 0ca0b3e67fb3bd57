-- Intervals between the two marks of one column (of rows) or of one row (of columns).
use Rattle.std.specs.Prelude.{◌==◌, ◌&&◌, ◌||◌, ◌<◌, ◌⊎◌, ℕ, Bool, if◌then◌else◌, nat_lt, nat_le, not}
use Rattle.grid_core.specs.declared.span.Span.{Span}

-- the interval with these two ends, in any order
abbrev pub span : ℕ → ℕ → Span
span a b = if nat_lt a b then record { low = a; high = b } else record { low = b; high = a }

-- r lies strictly between the ends of the interval
abbrev pub lies_within : Span → ℕ → Bool
lies_within s r = nat_lt s.low r && nat_lt r s.high

-- the interval is cut between the numbers h - 1 and h: one end lies below the cut, the other above
abbrev pub crosses_height : Span → ℕ → Bool
crosses_height s h = nat_lt s.low h && nat_le h s.high

-- r lies strictly between a and b, whichever of the two is the lower
abbrev pub IsBetween : ℕ → ℕ → ℕ → Type 0
IsBetween a b r = ((a < r) × (r < b)) ⊎ ((b < r) × (r < a))

-- an end of one is an end of the other
abbrev pub share_an_end : Span → Span → Bool
share_an_end s t = (s.low == t.low) || (s.low == t.high) || (s.high == t.low) || (s.high == t.high)

-- the two have the same two ends
abbrev pub share_both_ends : Span → Span → Bool
share_both_ends s t = (s.low == t.low) && (s.high == t.high)

-- the two have exactly one end in common
abbrev pub share_one_end : Span → Span → Bool
share_one_end s t = share_an_end s t && not (share_both_ends s t)

-- one lies wholly below the other
abbrev pub are_disjoint : Span → Span → Bool
are_disjoint s t = nat_lt s.high t.low || nat_lt t.high s.low

-- one lies strictly within the other
abbrev pub are_nested : Span → Span → Bool
are_nested s t = (nat_lt s.low t.low && nat_lt t.high s.high) || (nat_lt t.low s.low && nat_lt s.high t.high)
