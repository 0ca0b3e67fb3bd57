-- Edges that join passages.
use Rattle.std.specs.Prelude.{◌≡◌, ◌<◌, ℕ, ◌+◌, ◌==◌, ◌&&◌, Bool, true, List, count_by, if◌then◌else◌}
use Rattle.crossing_codes.specs.declared.crossing.Crossing.{Crossing}

-- the edge on which the strand over comes to a crossing, and the one on which it leaves
abbrev pub over_from : Crossing → ℕ
over_from x = if x.positive then x.fourth else x.second

abbrev pub over_to : Crossing → ℕ
over_to x = if x.positive then x.second else x.fourth

-- how many passages an edge leads to, and how many it comes from
abbrev pub passages_behind : List Crossing → ℕ → ℕ
passages_behind xs e = count_by (λ x. x.first == e) xs + count_by (λ x. over_from x == e) xs

abbrev pub passages_before : List Crossing → ℕ → ℕ
passages_before xs e = count_by (λ x. x.third == e) xs + count_by (λ x. over_to x == e) xs

-- the edge leads from one passage to one
abbrev pub is_joined : List Crossing → ℕ → Bool
is_joined xs e = (passages_behind xs e == 1) && (passages_before xs e == 1)

-- so does each of the first so many edges
abbrev pub AreJoined : List Crossing → ℕ → Type 0
AreJoined xs count = (e : ℕ) → e < count → is_joined xs (e + 1) ≡ true
