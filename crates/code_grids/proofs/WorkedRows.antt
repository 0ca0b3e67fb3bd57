-- Worked examples: codes of the trefoils under other names, and codes that no names make one another.
use Rattle.std.proofs.Common.{◌≡◌, ◌∷◌, ◌∙◌, ◌&&◌, ◌==◌, [], ℕ, Bool, true, false, List, length, map, get_or, refl, sym, ap, arith}
use Rattle.std.specs.Prelude.{nat_lt, not, ◌+◌}
use Rattle.std.specs.List.{list_all, range_with_len}
use Rattle.std.proofs.lemmas.Bool.{ltb-true, eqb-true, and_parts}
use Rattle.std.proofs.lemmas.List.{get_or-map, get_or_default}
use Rattle.std.proofs.lemmas.List.Sums.{AllPass-from_list_all}
use Rattle.std.proofs.lemmas.List.FromFn.{length-range_with_len}
use Rattle.grid_core.specs.Trefoils.{right_trefoil, left_trefoil}
use Rattle.crossing_codes.specs.declared.crossing.Code.{Code}
use Rattle.crossing_codes.specs.declared.crossing.Crossing.{Crossing}
use Rattle.crossing_codes.specs.Code.{code}
use Rattle.crossing_codes.specs.CodeColouring.{names_edges}
use Rattle.code_grids.specs.declared.renaming.Renaming.{Renaming}
use Rattle.code_grids.specs.Renaming.{IsUndone, AreInverse, renamed, IsSame, IsRenaming}
use Rattle.code_grids.specs.Recoloured.{recoloured}
use Rattle.code_grids.proofs.Undone.{own_place, below}

abbrev pub row : ℕ → ℕ → ℕ → ℕ → Bool → Crossing
row i j k l positive = record { first = i; second = j; third = k; fourth = l; positive = positive }

-- the right trefoil with its edges numbered from another one on, and its crossings as they are met
abbrev pub trefoil : Code
trefoil = record { crossings = row 2 6 3 5 true ∷ row 4 2 5 1 true ∷ row 6 4 1 3 true ∷ []; edges = 6; loops = 0 }

-- in the code of the grid edge 1 is edge 6, any other edge the one before, and the last crossing is the first
abbrev pub names : Renaming
names =
    record {
      crossings = 1 ∷ 2 ∷ 0 ∷ [];
      crossings_back = 2 ∷ 0 ∷ 1 ∷ [];
      edges = 5 ∷ 0 ∷ 1 ∷ 2 ∷ 3 ∷ 4 ∷ [];
      edges_back = 1 ∷ 2 ∷ 3 ∷ 4 ∷ 5 ∷ 0 ∷ [];
    }

-- the definitions as tests that compute
abbrev pub is_undone : List ℕ → List ℕ → Bool
is_undone there back = list_all (λ k. nat_lt (get_or there k 0) (length back) && (get_or back (get_or there k 0) 0 == k)) (range_with_len 0 (length there))

undone : (there back : List ℕ) → is_undone there back ≡ true → IsUndone there back
undone there back h k lt =
    let test : ℕ → Bool = λ k. nat_lt (get_or there k 0) (length back) && (get_or back (get_or there k 0) 0 == k) in
    let long = length-range_with_len 0 (length there) in
    let here = own_place (length there) k 0 lt in
    let at = AllPass-from_list_all test (range_with_len 0 (length there)) h k 0 (omega arith) in
    let parts = and_parts (nat_lt (get_or there k 0) (length back)) (get_or back (get_or there k 0) 0 == k) (ap test (sym here) ∙ at) in
    (ltb-true (get_or there k 0) (length back) parts.0, eqb-true (get_or back (get_or there k 0) 0) k parts.1)

same : (n : ℕ) (edges there back : List ℕ) (ones twos : List Crossing) (d : Crossing) → AreInverse n there back → length ones ≡ n → length twos ≡ n
    → map (renamed edges) ones ≡ map (λ (j : ℕ). get_or twos j d) there → IsSame edges there ones twos
same n edges there back ones twos d i long as_long is k lt e =
    let size = i.long in
    let f : ℕ → Crossing = λ (j : ℕ). get_or twos j d in
    let under = below n there back i k (omega arith) in
    ap (renamed edges) (get_or_default ones k e d lt)
    ∙ (sym (get_or-map (renamed edges) ones k d d lt)
    ∙ (ap (λ (xs : List Crossing). get_or xs k d) is
    ∙ (get_or-map f there k 0 d (omega arith) ∙ get_or_default twos (get_or there k 0) d e (omega arith))))

crossings_inverse : AreInverse 3 names.crossings names.crossings_back
crossings_inverse =
    record { long = refl; as_long = refl; undone = undone names.crossings names.crossings_back refl; redone = undone names.crossings_back names.crossings refl }

edges_inverse : AreInverse 6 names.edges names.edges_back
edges_inverse = record { long = refl; as_long = refl; undone = undone names.edges names.edges_back refl; redone = undone names.edges_back names.edges refl }

trefoil_named : IsRenaming trefoil (code right_trefoil) names
trefoil_named =
    record {
      crossings = crossings_inverse;
      edges = edges_inverse;
      as_many_crossings = refl;
      as_many_edges = refl;
      as_many_loops = refl;
      named = AllPass-from_list_all (names_edges 6) trefoil.crossings refl;
      same =
          same 3 names.edges names.crossings names.crossings_back trefoil.crossings (code right_trefoil).crossings (row 0 0 0 0 true)
          crossings_inverse refl refl refl;
    }

-- a colouring of the grid's code and, by the old names, of the given one
recoloured_row : recoloured names.edges (0 ∷ 1 ∷ 2 ∷ 0 ∷ 1 ∷ 2 ∷ []) ≡ 2 ∷ 0 ∷ 1 ∷ 2 ∷ 0 ∷ 1 ∷ []
recoloured_row = refl

-- signs stay: no names make the right trefoil the left one, whose signs are negative
left_is_another : (r : Renaming) → IsRenaming trefoil (code left_trefoil) r → ⊥
left_is_another r i =
    let d = row 0 0 0 0 false in
    let long = i.crossings.long in
    let under = below 3 r.crossings r.crossings_back i.crossings 0 (omega arith) in
    let here : true ≡ (get_or (code left_trefoil).crossings (get_or r.crossings 0 0) d).positive =
    ap (λ (x : Crossing). x.positive) (i.same 0 (omega arith) d) in
    let there = AllPass-from_list_all (λ (x : Crossing). not x.positive) (code left_trefoil).crossings refl (get_or r.crossings 0 0) d (omega arith) in
    let never : false ≡ true = ap not here ∙ there in
    cc

-- loops are counted
loops_count : (r : Renaming) → IsRenaming (record { crossings = []; edges = 0; loops = 1 }) (record { crossings = []; edges = 0; loops = 2 }) r → ⊥
loops_count r i = let e = i.as_many_loops in omega arith

-- the order around a crossing stays: a curl to the one side is not the one to the other, be the sign what it may
abbrev pub alone : Crossing → Code
alone x = record { crossings = x ∷ []; edges = 2; loops = 0 }

curls_differ : (r : Renaming) (positive : Bool) → IsRenaming (alone (row 1 1 2 2 positive)) (alone (row 1 2 2 1 positive)) r → ⊥
curls_differ r positive i =
    let d = row 0 0 0 0 true in
    let x = row 1 2 2 1 positive in
    let long = i.crossings.long in
    let under = below 1 r.crossings r.crossings_back i.crossings 0 (omega arith) in
    let first : get_or r.crossings 0 0 ≡ 0 = omega arith in
    let is : renamed r.edges (row 1 1 2 2 positive) ≡ x = i.same 0 (omega arith) d ∙ ap (λ (j : ℕ). get_or (x ∷ []) j d) first in
    let one : get_or r.edges 0 0 + 1 ≡ 1 = ap (λ (y : Crossing). y.first) is in
    let two : get_or r.edges 0 0 + 1 ≡ 2 = ap (λ (y : Crossing). y.second) is in
    omega arith
