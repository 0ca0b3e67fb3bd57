-- Whether signed Gauss lines are those of a code whose crossings have the numbers 1, 2, .. in their order.
use Rattle.std.specs.Prelude.{ℕ, ◌*◌, ◌-◌, ◌==◌, ◌&&◌, Bool, true, false, not, List, [], ◌∷◌, length, count_by, flat_map, slice_index_or, nat_le, if◌then◌else◌}
use Rattle.std.specs.List.{list_all, range_with_len}
use Rattle.crossing_codes.specs.declared.crossing.Code.{Code}
use Rattle.crossing_codes.specs.declared.crossing.Crossing.{Crossing}
use Rattle.code_rows.specs.JoinedEdges.{over_from, over_to}
use Rattle.code_rows.specs.CodeMap.{no_crossing}
use Rattle.code_text.specs.declared.gauss_lines.GaussPassage.{GaussPassage}

-- the crossing of a passage, or one without edges where the code has none of its number
abbrev pub crossing_of : List Crossing → GaussPassage → Crossing
crossing_of xs p = slice_index_or xs (p.crossing - 1) no_crossing

-- the edge on which the strand comes to a crossing over or under, and the one on which it leaves
abbrev pub comes_on : Crossing → Bool → ℕ
comes_on x over = if over then over_from x else x.first

-- the edge on which the strand leaves a crossing over or under
abbrev pub leaves_on : Crossing → Bool → ℕ
leaves_on x over = if over then over_to x else x.third

-- both hold, or neither does
abbrev pub are_alike : Bool → Bool → Bool
are_alike b c = if b then c else not c

-- the code has this crossing, with this sign
abbrev pub is_there : List Crossing → GaussPassage → Bool
is_there xs p = nat_le 1 p.crossing && (nat_le p.crossing (length xs) && are_alike (crossing_of xs p).positive p.positive)

-- the edge that leaves the one passage leads to the other
abbrev pub edge_leads_to : List Crossing → GaussPassage → GaussPassage → Bool
edge_leads_to xs p q = leaves_on (crossing_of xs p) p.over == comes_on (crossing_of xs q) q.over

-- the first of the passages, or this one where there are none
abbrev pub next_of : GaussPassage → List GaussPassage → GaussPassage
next_of first [] = first
next_of first (p ∷ ps) = p

-- each leads to the next, and the last to the first
abbrev pub lead_on : List Crossing → GaussPassage → List GaussPassage → Bool
lead_on xs first [] = true
lead_on xs first (p ∷ ps) = edge_leads_to xs p (next_of first ps) && lead_on xs first ps

-- the strand goes from passage to passage of a line, and round
abbrev pub goes_round : List Crossing → List GaussPassage → Bool
goes_round xs [] = true
goes_round xs (p ∷ ps) = lead_on xs p (p ∷ ps)

-- the passages of all lines
abbrev pub all_of : List (List GaussPassage) → List GaussPassage
all_of walks = flat_map (λ walk. walk) walks

-- the passage goes over, or under, through crossing k
abbrev pub is_through : Bool → ℕ → GaussPassage → Bool
is_through over k p = are_alike p.over over && (p.crossing == k)

-- crossing k, counted from 1, is passed once over and once under
abbrev pub is_passed_twice : List GaussPassage → ℕ → Bool
is_passed_twice ps k = (count_by (is_through true k) ps == 1) && (count_by (is_through false k) ps == 1)

-- the lines are those of the code: each passage has a crossing of the code and its sign, each crossing is passed once over and once
-- under, and along each line the strand goes from passage to passage and round
abbrev pub is_gauss_of : List Crossing → List (List GaussPassage) → Bool
is_gauss_of xs walks =
    (length (all_of walks) == 2 * length xs) && (list_all (is_there xs) (all_of walks)
    && (list_all (is_passed_twice (all_of walks)) (range_with_len 1 (length xs)) && list_all (goes_round xs) walks))

-- where there are no lines, they ask for nothing
abbrev pub agrees_with_gauss : Code → List (List GaussPassage) → Bool
agrees_with_gauss c [] = true
agrees_with_gauss c (walk ∷ walks) = is_gauss_of c.crossings (walk ∷ walks)
