-- The list of fixed points has each once, so braids between whose fixed points there is a bijection have equally many.
use Rattle.std.proofs.Common.{◌≡◌, ◌∙◌, ◌<◌, ℕ, zero, suc, List, [], ◌∷◌, Bool, true, false, length, get_or, ap, sym, refl, arith, inl, inr}
use Rattle.std.proofs.Common.{subst, Contains, AllPairs}
use Rattle.std.specs.Ordering.{is_eq}
use Rattle.std.proofs.lemmas.Slice.Eq.{bytes_eq-Decides}
use Rattle.std.proofs.lemmas.Map.Text.{is_eq-slice_cmp}
use Rattle.quandle_core.specs.Quandle.{Table}
use Rattle.quandle_core.specs.Bijection.{IsBijection}
use Rattle.quandle_core.proofs.Lengths.{IsOneOf, AreDistinct, IsListing, equal_lengths}
use Rattle.braid_core.specs.Braid.{Word}
use Rattle.braid_core.specs.FixedPoints.{fixed_points, IsFixedPoint}
use Rattle.braid_laws.proofs.Listed.{IsBefore, fixed_in_order, listed_fixed, fixed_listed}

-- what stands at a place of a list is one of its items
one_at : (ys : List (List ℕ)) (k : ℕ) (d : List ℕ) → k < length ys → IsOneOf (get_or ys k d) ys
one_at [] k d lt = absurd (omega arith)
one_at (y ∷ ys) zero d lt = inl refl
one_at (y ∷ ys) (suc k) d lt = inr (one_at ys k d (omega arith))

one_from : (ys : List (List ℕ)) (x : List ℕ) → Contains ys x → IsOneOf x ys
one_from ys x at = subst (λ (z : List ℕ). IsOneOf z ys) at.2 (one_at ys at.0 x at.1)

contains_from : (ys : List (List ℕ)) (x : List ℕ) → IsOneOf x ys → Contains ys x
contains_from [] x one = absurd one
contains_from (y ∷ ys) x one = elim one [
  | inl e ↦ (0, omega arith, sym e)
  | inr h ↦ let more = contains_from ys x h in (suc more.0, (let lt = more.1 in omega arith), more.2)
]

-- a list in strict order has nothing twice
not_before_itself : (x : List ℕ) → IsBefore x x → ⊥
not_before_itself x e =
    let never : ◌≡◌ {A = Bool} false true = sym (ap is_eq e) ∙ (is_eq-slice_cmp x x ∙ (bytes_eq-Decides x x).1 refl) in
    absurd (cc)

distinct_from : (ys : List (List ℕ)) → AllPairs IsBefore ys → AreDistinct ys
distinct_from [] pairs = tt
distinct_from (y ∷ ys) pairs = (
  λ one.
      let at = contains_from ys y one in
      not_before_itself y (subst (λ (z : List ℕ). IsBefore y z) at.2 (pairs 0 (suc at.0) y (omega arith) (let lt = at.1 in omega arith))),
  distinct_from ys (λ i j d lt within. pairs (suc i) (suc j) d (omega arith) (omega arith)),
)

pub fixed_listing : (t : Table) (w : Word) → IsListing (IsFixedPoint t w) (fixed_points t w)
fixed_listing t w = record {
  distinct = distinct_from (fixed_points t w) (fixed_in_order t w);
  sound = λ x one. listed_fixed t w x (contains_from (fixed_points t w) x one);
  complete = λ x point. one_from (fixed_points t w) x (fixed_listed t w x point);
}

pub equally_many : (t : Table) (v w : Word) (go : List ℕ → List ℕ) → IsBijection (IsFixedPoint t v) (IsFixedPoint t w) go
    → length (fixed_points t v) ≡ length (fixed_points t w)
equally_many t v w go b = equal_lengths (IsFixedPoint t v) (IsFixedPoint t w) go b (fixed_points t v) (fixed_points t w) (fixed_listing t v) (fixed_listing t w)
