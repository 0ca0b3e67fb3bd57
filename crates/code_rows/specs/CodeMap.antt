-- A code as a map on surfaces: its faces and its connected parts, and Euler's formula.
-- Dart 4k + s is the end of an edge at crossing k, counted from 0, in slot s: 0 for the first edge of the crossing to 3 for its fourth.
use Rattle.std.specs.Prelude.{ℕ, zero, suc, ◌+◌, ◌-◌, ◌*◌, ◌/◌, ◌%◌, ◌==◌, ◌&&◌, min, max, Bool, false, not}
use Rattle.std.specs.Prelude.{List, map, length, count_by, slice_index, slice_index_or, nat_le, unwrap_or, if◌then◌else◌}
use Rattle.std.specs.List.{range_with_len, list_all}
use Rattle.grid_core.specs.Fault.{lowest}
use Rattle.crossing_codes.specs.declared.crossing.Crossing.{Crossing}

abbrev pub darts : List Crossing → ℕ
darts xs = 4 * length xs

abbrev pub in_slot : Crossing → ℕ → ℕ
in_slot x s = if s == 0 then x.first else if s == 1 then x.second else if s == 2 then x.third else x.fourth

-- what stands for the crossing of a dart that is none
abbrev pub no_crossing : Crossing
no_crossing = record { first = 0; second = 0; third = 0; fourth = 0; positive = false }

abbrev pub edge_at : List Crossing → ℕ → ℕ
edge_at xs d = in_slot (slice_index_or xs (d / 4) no_crossing) (d % 4)

-- the other end of a dart's edge: the lowest other dart with this edge
abbrev pub is_other_end : List Crossing → ℕ → ℕ → Bool
is_other_end xs d e = (edge_at xs e == edge_at xs d) && not (e == d)

abbrev pub twin : List Crossing → ℕ → ℕ
twin xs d = unwrap_or (lowest (is_other_end xs d) (darts xs)) 0

-- by dart
abbrev pub twins : List Crossing → List ℕ
twins xs = map (twin xs) (range_with_len 0 (darts xs))

-- the dart so many slots further counterclockwise around its crossing
abbrev pub turned : ℕ → ℕ → ℕ
turned d slots = d - d % 4 + (d % 4 + slots) % 4

-- the next dart with the same face on its left: at the end of a dart one turns to the left
abbrev pub next_in_face : List ℕ → ℕ → ℕ
next_in_face ends d = turned (slice_index ends d) 3

-- the dart k darts further around the face
abbrev pub around_face : List ℕ → ℕ → ℕ → ℕ
around_face ends zero d = d
around_face ends (suc k) d = next_in_face ends (around_face ends k d)

-- no dart of the face is less
abbrev pub is_least_of_face : List ℕ → ℕ → Bool
is_least_of_face ends d = list_all (λ k. nat_le d (around_face ends k d)) (range_with_len 0 (length ends))

-- faces, each by its least dart
abbrev pub faces : List ℕ → ℕ
faces ends = count_by (is_least_of_face ends) (range_with_len 0 (length ends))

-- two parts become one: of their two numbers the lesser stays
abbrev pub united_parts : ℕ → ℕ → List ℕ → List ℕ
united_parts a b numbers = map (λ i. if i == max a b then min a b else i) numbers

-- the number of each crossing's part, when only the edges of the first d darts join crossings
abbrev pub parts_below : List ℕ → ℕ → ℕ → List ℕ
parts_below ends crossings zero = range_with_len 0 crossings
parts_below ends crossings (suc d) =
    let numbers = parts_below ends crossings d in
    united_parts (slice_index numbers (d / 4)) (slice_index numbers (slice_index ends d / 4)) numbers

-- parts, each by its least crossing
abbrev pub parts : List ℕ → ℕ → ℕ
parts ends crossings = count_by (λ k. slice_index (parts_below ends crossings (length ends)) k == k) (range_with_len 0 crossings)

-- Euler's formula: a map of spheres, one to each part, has as many faces as crossings and twice the parts, and on other surfaces fewer
abbrev pub is_plane : List Crossing → Bool
is_plane xs = faces (twins xs) == length xs + 2 * parts (twins xs) (length xs)
