-- Worked rows of shadow weights, by computing.
use Rattle.std.proofs.Common.{◌≡◌, refl, [], ◌∷◌, true, None, Some}
use Rattle.std.specs.Prelude.{◌==◌, ◌+◌, ◌*◌, ◌/◌, ◌%◌, ◌^◌, map, slice_index}
use Rattle.std.specs.List.{list_all, flat_map, range_with_len}
use Rattle.grid_moves.specs.declared.step.Move.TheVariants.{ShiftRows}
use Rattle.quandle_core.specs.Tables.{dihedral, trivial}
use Rattle.colour_list.specs.Listing.{colourings}
use Rattle.colour_laws.specs.Carried.{carried, after_row_shift}
use Rattle.cocycle_core.specs.declared.shadow_fault.ShadowFault.TheVariants.{Modulus, Length, Range, Diagonal, Law}
use Rattle.cocycle_core.specs.ShadowCocycle.{ShadowCochain, shadow_value}
use Rattle.cocycle_core.specs.ShadowFault.{first_shadow_fault}
use Rattle.colour_weights.specs.Region.{region}
use Rattle.colour_weights.specs.ShadowWeight.{shadow_crossing_value, shadow_weight}
use Rattle.colour_weights.specs.ShadowWalkSum.{shadow_weight_by_rows}
use Rattle.colour_weights.specs.ShadowWeights.{shadows_of, shadow_weights}
use Rattle.grid_core.specs.Trefoils.{right_trefoil, left_trefoil}
use Rattle.cocycle_core.specs.Mochizuki.{mochizuki_three}

-- another number for each three colours: θ(w, x, y) = 9w + 3x + y
abbrev numbered : ShadowCochain
numbered = record {
  quandle = dihedral 3;
  modulus = 27;
  entries = 0 ∷ 1 ∷ 2 ∷ 3 ∷ 4 ∷ 5 ∷ 6 ∷ 7 ∷ 8 ∷ 9 ∷ 10 ∷ 11 ∷ 12 ∷ 13 ∷ 14 ∷ 15 ∷ 16 ∷ 17 ∷ 18 ∷ 19 ∷ 20 ∷ 21 ∷ 22 ∷ 23 ∷ 24 ∷ 25 ∷ 26 ∷ [];
}

-- the table is that of its formula: mod 3, x - y is x + 2y; mod 9, -y is 8y and -2z³ is 7z³
by_formula : mochizuki_three.entries ≡ flat_map (λ x. flat_map (λ y. map (λ z. (x + 2 * y) * (((2 * z + 8 * y) ^ 3 + y ^ 3 + 7 * z ^ 3) / 3) % 3)
    (range_with_len 0 3)) (range_with_len 0 3)) (range_with_len 0 3)
by_formula = refl

pub no_fault : first_shadow_fault mochizuki_three ≡ None
no_fault = refl

-- all 27 pairs of a colouring and an outer colour by their weights
pub right_weights : shadow_weights mochizuki_three right_trefoil ≡ 9 ∷ 0 ∷ 18 ∷ []
right_weights = refl

pub left_weights : shadow_weights mochizuki_three left_trefoil ≡ 9 ∷ 18 ∷ 0 ∷ []
left_weights = refl

-- By hand. The crossings of the right trefoil, all positive, are column 2 over row 1, column 1 over row 2, both down over a row to the right, and column 3,
-- which is up, over row 3 to the left. Right of both strands lies the outer region each time: below left of the first two, above right of the third.
-- So in the outer colour u, and a, b, c of columns 0, 1 and 2, where column 3 has a as well, the weight is θ(u, a, b) + θ(u, b, c) + θ(u, c, a).
right_by_hand : list_all (λ u. list_all (λ f. shadow_weight mochizuki_three right_trefoil f u
    == (shadow_value mochizuki_three u (slice_index f 0) (slice_index f 1) + shadow_value mochizuki_three u (slice_index f 1) (slice_index f 2)
    + shadow_value mochizuki_three u (slice_index f 2) (slice_index f 0)) % 3)
    (colourings (dihedral 3) right_trefoil)) (range_with_len 0 3) ≡ true
right_by_hand = refl

-- θ(1, 0, 1) + θ(1, 1, 2) + θ(1, 2, 0) = 2 + 0 + 0
right_weight : shadow_weight mochizuki_three right_trefoil (0 ∷ 1 ∷ 2 ∷ 0 ∷ 2 ∷ []) 1 ≡ 2
right_weight = refl

-- The crossings of the left trefoil, all negative, are column 1 over row 2, column 2 over row 3, both up over a row to the right, and column 3, which is down,
-- over row 1 to the left. Right of both strands lies a region within each time: 1 ◁ 0 ◁ 1 = 0 behind columns 0 and 1, 1 ◁ 1 ◁ 2 = 0 behind columns 1 and 2.
left_first : shadow_crossing_value numbered left_trefoil (0 ∷ 1 ∷ 2 ∷ 0 ∷ 2 ∷ []) 1 1 2 ≡ 7
left_first = refl

left_second : shadow_crossing_value numbered left_trefoil (0 ∷ 1 ∷ 2 ∷ 0 ∷ 2 ∷ []) 1 2 3 ≡ 2
left_second = refl

left_third : shadow_crossing_value numbered left_trefoil (0 ∷ 1 ∷ 2 ∷ 0 ∷ 2 ∷ []) 1 3 1 ≡ 3
left_third = refl

-- minus the sum of θ(0, 2, 1), θ(0, 0, 2) and θ(0, 1, 0), which is 2 + 0 + 0
left_weight : shadow_weight mochizuki_three left_trefoil (0 ∷ 1 ∷ 2 ∷ 0 ∷ 2 ∷ []) 1 ≡ 1
left_weight = refl

-- with one outer colour alone
right_outer : shadows_of mochizuki_three right_trefoil 2 1 ≡ 6
right_outer = refl

-- the sum over crossings is the sum over rows
by_rows : list_all (λ u. list_all (λ c. shadow_weight mochizuki_three right_trefoil c u == shadow_weight_by_rows mochizuki_three right_trefoil c u)
    (colourings (dihedral 3) right_trefoil)) (range_with_len 0 3) ≡ true
by_rows = refl

-- at height 4, behind column 0, which is down there and has colour 0: 1 ▷ 0 = 2
behind_down : region (dihedral 3) right_trefoil (0 ∷ 1 ∷ 2 ∷ 0 ∷ 2 ∷ []) 1 4 1 ≡ 2
behind_down = refl

-- and behind column 3, which is up there and has colour 0 too: 2 ◁ 0 = 1
behind_up : region (dihedral 3) right_trefoil (0 ∷ 1 ∷ 2 ∷ 0 ∷ 2 ∷ []) 1 4 4 ≡ 1
behind_up = refl

-- row 1 runs to the right and comes in colour 1 to column 2, which is down and has colour 2; below it and left of the column all is outside, of colour 1:
-- θ(1, 1, 2)
under_down : shadow_crossing_value numbered right_trefoil (0 ∷ 1 ∷ 2 ∷ 0 ∷ 2 ∷ []) 1 2 1 ≡ 14
under_down = refl

-- row 3 runs to the left and comes in colour 1 to column 3, which is up and has colour 0, and goes on in colour 2.
-- Above it and right of the column the region has colour 1: θ(1, 2, 0)
under_up : shadow_crossing_value numbered right_trefoil (0 ∷ 1 ∷ 2 ∷ 0 ∷ 2 ∷ []) 1 3 3 ≡ 15
under_up = refl

-- carried colourings have the weights that they had
kept_by_rows : list_all
    (λ u. list_all (λ c. shadow_weight mochizuki_three (after_row_shift 1 right_trefoil) (carried (dihedral 3) right_trefoil (ShiftRows 1) c) u
    == shadow_weight mochizuki_three right_trefoil c u) (colourings (dihedral 3) right_trefoil)) (range_with_len 0 3) ≡ true
kept_by_rows = refl

-- faults
too_low : first_shadow_fault (record { quandle = trivial 2; modulus = 1; entries = [] }) ≡ Some Modulus
too_low = refl

too_short : first_shadow_fault (record { quandle = trivial 2; modulus = 3; entries = 0 ∷ 5 ∷ 1 ∷ [] }) ≡ Some Length
too_short = refl

out_of_range : first_shadow_fault (record { quandle = trivial 2; modulus = 3; entries = 0 ∷ 0 ∷ 0 ∷ 0 ∷ 0 ∷ 3 ∷ 3 ∷ 0 ∷ [] }) ≡ Some (Range 1 0 1)
out_of_range = refl

not_diagonal : first_shadow_fault (record { quandle = trivial 2; modulus = 3; entries = 0 ∷ 0 ∷ 0 ∷ 1 ∷ 0 ∷ 0 ∷ 0 ∷ 0 ∷ [] }) ≡ Some (Diagonal 0 1)
not_diagonal = refl

law_broken : first_shadow_fault (record {
  quandle = dihedral 3;
  modulus = 3;
  entries =
      0 ∷ 0 ∷ 0 ∷ 0 ∷ 0 ∷ 1 ∷ 0 ∷ 2 ∷ 0 ∷ 0 ∷ 2 ∷ 1 ∷ 0 ∷ 0 ∷ 0 ∷ 0 ∷ 1 ∷ 0 ∷ 0 ∷ 1 ∷ 2 ∷ 0 ∷ 0 ∷ 1 ∷ 0 ∷ 0 ∷ 0 ∷ [];
}) ≡ Some (Law 0 1 0 2)
law_broken = refl
