-- Spans, and how two of them lie to each other.
use Rattle.std.specs.Prelude.{ℕ, Bool, nat_lt, ◌==◌, ◌&&◌, ◌||◌, not}

-- The span of a column: the open interval of rows between its two marks, by the row of the lower mark and the row of the higher one.
pub record Span : Type 0 where
  pub low : ℕ
  pub high : ℕ

-- the row lies strictly between the two ends
abbrev pub lies_strictly_between : ℕ → Span → Bool
lies_strictly_between row s = nat_lt s.low row && nat_lt row s.high

-- one ends below the other's beginning
abbrev pub disjoint : Span → Span → Bool
disjoint a b = nat_lt a.high b.low || nat_lt b.high a.low

-- both ends of the first lie strictly between the ends of the second
abbrev pub lies_inside : Span → Span → Bool
lies_inside a b = lies_strictly_between a.low b && lies_strictly_between a.high b

-- one lies inside the other
abbrev pub strictly_nested : Span → Span → Bool
strictly_nested a b = lies_inside a b || lies_inside b a

-- exactly one end of each lies strictly between the ends of the other
abbrev pub interleaved : Span → Span → Bool
interleaved a b = reaches_up_into a b || reaches_up_into b a
  where
    -- the second begins inside the first, and the first ends inside the second
    reaches_up_into : Span → Span → Bool
    reaches_up_into s t = lies_strictly_between t.low s && lies_strictly_between s.high t

-- an end of one is an end of the other
abbrev pub touching : Span → Span → Bool
touching a b = is_end a.low b || is_end a.high b
  where
    is_end : ℕ → Span → Bool
    is_end row s = (row == s.low) || (row == s.high)

-- no two of the four ends are the same row
abbrev pub four_different_ends : Span → Span → Bool
four_different_ends a b = not (a.low == a.high) && not (b.low == b.high) && not (touching a b)

-- Two neighbouring columns may trade places, by Cromwell's exchange, where their spans have four different ends and are disjoint or strictly nested
-- (Cromwell 1995; Dynnikov 2006).
abbrev pub may_trade_places : Span → Span → Bool
may_trade_places a b = four_different_ends a b && (disjoint a b || strictly_nested a b)
