-- Lists of colours of a quandle, which are the numbers below its order.
use Rattle.std.specs.Prelude.{◌≡◌, ◌<◌, ◌⊎◌, ◌==◌, ◌&&◌, ℕ, zero, suc, Bool, List, [], ◌∷◌, length, map, nat_lt}
use Rattle.std.specs.List.{All, range_with_len, flat_map, list_all}

-- n colours below q
abbrev pub AreColours : ℕ → ℕ → List ℕ → Type 0
AreColours n q colours = (length colours ≡ n) × All (λ y. y < q) colours

-- the same as a test that computes
abbrev pub are_colours : ℕ → ℕ → List ℕ → Bool
are_colours n q colours = (length colours == n) && list_all (λ y. nat_lt y q) colours

-- all lists of n numbers below q, in lexicographic order
abbrev pub all_lists : ℕ → ℕ → List (List ℕ)
all_lists q zero = [] ∷ []
all_lists q (suc n) = flat_map (λ a. map (λ rest. a ∷ rest) (all_lists q n)) (range_with_len 0 q)

-- xs comes before ys in the lexicographic order
abbrev pub ComesBefore : List ℕ → List ℕ → Type 0
ComesBefore [] [] = ⊥
ComesBefore [] (y ∷ ys) = Unit {0}
ComesBefore (x ∷ xs) [] = ⊥
ComesBefore (x ∷ xs) (y ∷ ys) = (x < y) ⊎ ((x ≡ y) × ComesBefore xs ys)
