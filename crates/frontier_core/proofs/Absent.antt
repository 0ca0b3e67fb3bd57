-- An id that stands in none of the lists is not held.
use Rattle.std.proofs.Common.{◌≡◌, ◌≢◌, ap, subst, ℕ, zero, suc, ◌==◌, inl, inr, List, [], ◌∷◌, length, get_or, All, Contains, Bool, true, false, not, arith}
use Rattle.std.specs.List.{list_all}
use Rattle.std.proofs.lemmas.List.{get_or_past}
use Rattle.std.proofs.lemmas.List.Folds.{list_all_at}
use Rattle.std.proofs.lemmas.Bool.{cases_lt, eq-eqb}
use Rattle.std.proofs.lemmas.Bool.Decides.{eqb_tells}
use Rattle.frontier_core.specs.Held.{HeldIds, IsHeld, ids_of}
use Rattle.frontier_core.specs.Order.{SizedId, of_size, IsOrderOf}
use Rattle.frontier_core.proofs.Orders.{of_size_here, of_size_other}

-- a test that computes
abbrev pub is_absent : HeldIds → ℕ → Bool
is_absent held id = list_all (λ ids. list_all (λ other. not (other == id)) ids) held.by_size

pub absent : (held : HeldIds) (id : ℕ) → is_absent held id ≡ true → IsHeld held id → ⊥
absent held id none at = elim (cases_lt at.0 (length held.by_size)) [
  | inl lt ↦
      let found : not (get_or (ids_of held at.0) at.1.0 id == id) ≡ false = ap not (eq-eqb (get_or (ids_of held at.0) at.1.0 id) id at.1.2) in
      let one : list_all (λ other. not (other == id)) (ids_of held at.0) ≡ false =
      list_all_at (λ other. not (other == id)) (ids_of held at.0) at.1.0 id at.1.1 found in
      let all : is_absent held id ≡ false = list_all_at (λ ids. list_all (λ other. not (other == id)) ids) held.by_size at.0 [] lt one in
      cc
  | inr ge ↦ omega (arith, at.1.1, ap length (get_or_past held.by_size at.0 [] ge))
]

none_of_size : (order : List SizedId) (id s : ℕ) → All (λ (p : SizedId). p.id ≢ id) order → Contains (of_size s order) id → ⊥
none_of_size [] id s others at = omega (arith, at.1)
none_of_size (p ∷ ps) id s others at =
    let rest : (Contains (of_size s ps) id → ⊥) = none_of_size ps id s (λ k d lt. others (suc k) d (omega (arith, lt))) in
    elim (eqb_tells p.size s) [
      | inl same ↦ here rest (subst (λ (ids : List ℕ). Contains ids id) (of_size_here s p ps same.1) at)
      | inr other ↦ rest (subst (λ (ids : List ℕ). Contains ids id) (of_size_other s p ps other.1) at)
    ]
  where
    here : (Contains (of_size s ps) id → ⊥) → Contains (p.id ∷ of_size s ps) id → ⊥
    here rest (zero, lt, is) = others 0 p (omega arith) is
    here rest (suc k, lt, is) = rest (k, omega (arith, lt), is)

-- an id that stands in no pair of what is held, in the order of pushing, is not held
pub absent_in_order : (order : List SizedId) (held : HeldIds) (id : ℕ) → IsOrderOf order held → All (λ (p : SizedId). p.id ≢ id) order → IsHeld held id → ⊥
absent_in_order order held id is others at = none_of_size order id at.0 others (subst (λ (ids : List ℕ). Contains ids id) (is at.0) at.1)
