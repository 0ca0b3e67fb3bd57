-- Worked rows of the definitions.
use Rattle.std.proofs.Common.{◌≡◌, refl, ℕ, Bool, List, [], ◌∷◌, map, true, false}
use Rattle.std.specs.List.{range_with_len}
use Rattle.std.specs.Simd.Lanes.{mask_l}
use Rattle.lane_spans.specs.Span.{Span, disjoint, strictly_nested, interleaved, touching, may_trade_places}
use Rattle.lane_spans.specs.Columns.{lane_covers, trades}

covering_of : List ℕ → List ℕ → ℕ → ℕ
covering_of lo hi row = mask_l (map (lane_covers lo hi row) (range_with_len 0 64))

exchange_of : List ℕ → List ℕ → ℕ
exchange_of lo hi = mask_l (map (trades lo hi) (range_with_len 0 64))

abbrev trefoil_lo : List ℕ
trefoil_lo = 2 ∷ 1 ∷ 0 ∷ 1 ∷ 0 ∷ []

abbrev trefoil_hi : List ℕ
trefoil_hi = 4 ∷ 3 ∷ 2 ∷ 4 ∷ 3 ∷ []

covering_row : covering_of trefoil_lo trefoil_hi 2 ≡ 26
unfolding covering_of
covering_row = refl

exchange_row : exchange_of trefoil_lo trefoil_hi ≡ 0
unfolding exchange_of
exchange_row = refl

nested_row : exchange_of (0 ∷ 1 ∷ 0 ∷ 1 ∷ []) (3 ∷ 2 ∷ 2 ∷ 3 ∷ []) ≡ 1
unfolding exchange_of
nested_row = refl

-- the neighbour of the only column is itself, and two columns are neighbours both ways
one_column : exchange_of (1 ∷ []) (2 ∷ []) ≡ 0
unfolding exchange_of
one_column = refl

two_columns : exchange_of (1 ∷ 3 ∷ []) (2 ∷ 4 ∷ []) ≡ 3
unfolding exchange_of
two_columns = refl

-- each way of two spans, by name
abbrev spans_are : (Span → Span → Bool) → ℕ → ℕ → ℕ → ℕ → Bool
spans_are test l h l' h' = test (record { low = l; high = h }) (record { low = l'; high = h' })

disjoint_row : spans_are disjoint 0 1 2 3 ≡ true
disjoint_row = refl

nested_in_row : spans_are strictly_nested 1 2 0 3 ≡ true
nested_in_row = refl

interleaved_row : spans_are interleaved 0 2 1 3 ≡ true
interleaved_row = refl

touching_row : spans_are touching 0 2 2 3 ≡ true
touching_row = refl

-- touching from outside and from inside, interleaved and equal spans may not trade places
touching_outside : spans_are may_trade_places 0 2 2 3 ≡ false
touching_outside = refl

touching_inside : spans_are may_trade_places 0 3 1 3 ≡ false
touching_inside = refl

interleaved_stay : spans_are may_trade_places 0 2 1 3 ≡ false
interleaved_stay = refl

equal_stay : spans_are may_trade_places 0 2 0 2 ≡ false
equal_stay = refl
