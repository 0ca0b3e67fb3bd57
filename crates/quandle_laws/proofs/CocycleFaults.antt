-- The first fault, told without a search: its case fails, and no case before it.
use Rattle.std.proofs.Common.{◌≡◌, ◌≢◌, ◌<◌, ◌≤◌, ◌+◌, ◌*◌, ◌%◌, ◌==◌, ◌∙◌, inl, inr, ℕ, zero, suc, [], ◌∷◌, Bool, true, false, Option, Some, None, length}
use Rattle.std.proofs.Common.{refl, sym, ap, subst, arith}
use Rattle.std.specs.Prelude.{nat_lt, nat_le}
use Rattle.std.proofs.lemmas.Bool.{le-leb, eqb-true, eq-eqb, ltb-true, lt-ltb, leb-true, cases_lt, both_ways, false_from_ne_true}
use Rattle.quandle_core.specs.Quandle.{over}
use Rattle.quandle_core.specs.Colours.{ComesBefore}
use Rattle.quandle_core.specs.Fault.{first, or_else, unless}
use Rattle.quandle_core.proofs.Firsts.{first_none, first_found, first_all, unless_none, unless_false, or_else_none}
use Rattle.quandle_laws.proofs.Leasts.{least1, least2, least3, unless_some}
use Rattle.quandle_laws.proofs.QuandleFaults.{no_smaller}
use Rattle.cocycle_core.specs.Cocycle.{Cochain, value}
use Rattle.cocycle_core.specs.CocycleCases.{IsCocycleFaultOf, IsFirstCocycleFault, cocycle_law_rank, cocycle_case_of}
use Rattle.cocycle_core.specs.Fault.{modulus_fault, cocycle_length_fault, cocycle_range_fault, diagonal_fault, cocycle_law_fault, first_cocycle_fault}
use Rattle.cocycle_core.specs.Fault.{cocycle_range_case, diagonal_case, law_case, obeys}
use Rattle.cocycle_core.specs.declared.fault.CocycleFault.{CocycleFault}
use Rattle.cocycle_core.specs.declared.fault.CocycleFault.TheVariants.{Modulus, Length, Range, Diagonal, Law}

-- the two sides of the cocycle law
abbrev one_side : Cochain → ℕ → ℕ → ℕ → ℕ
one_side w x y z = (value w x y + value w (over w.quandle x y) z) % w.modulus

abbrev other_side : Cochain → ℕ → ℕ → ℕ → ℕ
other_side w x y z = (value w x z + value w (over w.quandle x z) (over w.quandle y z)) % w.modulus

-- one case that is no fault
modulus_holds : (w : Cochain) → modulus_fault w ≡ None → IsCocycleFaultOf w Modulus → ⊥
modulus_holds w none fails =
    let least = leb-true 2 w.modulus (unless_none (nat_le 2 w.modulus) Modulus none) in
    absurd (omega (arith, least, fails))

length_holds : (w : Cochain) → cocycle_length_fault w ≡ None → IsCocycleFaultOf w Length → ⊥
length_holds w none fails =
    fails (eqb-true (length w.entries) (w.quandle.order * w.quandle.order) (unless_none (length w.entries == w.quandle.order * w.quandle.order) Length none))

range_holds : (w : Cochain) (x y : ℕ) → cocycle_range_case w x y ≡ None → IsCocycleFaultOf w (Range x y) → ⊥
range_holds w x y none fails =
    let under = ltb-true (value w x y) w.modulus (unless_none (nat_lt (value w x y) w.modulus) (Range x y) none) in
    absurd (omega (arith, under, fails.2))

diagonal_holds : (w : Cochain) (x : ℕ) → diagonal_case w x ≡ None → IsCocycleFaultOf w (Diagonal x) → ⊥
diagonal_holds w x none fails = fails.1 (eqb-true (value w x x) 0 (unless_none (value w x x == 0) (Diagonal x) none))

law_holds : (w : Cochain) (x y z : ℕ) → law_case w x y z ≡ None → IsCocycleFaultOf w (Law x y z) → ⊥
law_holds w x y z none fails = fails.3 (eqb-true (one_side w x y z) (other_side w x y z) (unless_none (obeys w x y z) (Law x y z) none))

-- a case whose test fails is a fault
modulus_fails : (w : Cochain) → nat_le 2 w.modulus ≡ false → IsCocycleFaultOf w Modulus
modulus_fails w e = elim (cases_lt w.modulus 2) [
  | inl under ↦ under
  | inr least ↦ absurd (both_ways (nat_le 2 w.modulus) e (le-leb 2 w.modulus least))
]

length_fails : (w : Cochain) → (length w.entries == w.quandle.order * w.quandle.order) ≡ false → IsCocycleFaultOf w Length
length_fails w e = λ same.
    both_ways (length w.entries == w.quandle.order * w.quandle.order) e (eq-eqb (length w.entries) (w.quandle.order * w.quandle.order) same)

above_modulus : (w : Cochain) (x y : ℕ) → nat_lt (value w x y) w.modulus ≡ false → w.modulus ≤ value w x y
above_modulus w x y e = elim (cases_lt (value w x y) w.modulus) [
  | inl under ↦ absurd (both_ways (nat_lt (value w x y) w.modulus) e (lt-ltb (value w x y) w.modulus under))
  | inr above ↦ above
]

other_than_zero : (w : Cochain) (x : ℕ) → (value w x x == 0) ≡ false → value w x x ≢ 0
other_than_zero w x e = λ same. both_ways (value w x x == 0) e (eq-eqb (value w x x) 0 same)

sides_differ : (w : Cochain) (x y z : ℕ) → obeys w x y z ≡ false → one_side w x y z ≢ other_side w x y z
sides_differ w x y z e = λ same. both_ways (obeys w x y z) e (eq-eqb (one_side w x y z) (other_side w x y z) same)

-- the first fault of each law
abbrev fault_of_law : Cochain → ℕ → Option CocycleFault
fault_of_law w zero = modulus_fault w
fault_of_law w (suc zero) = cocycle_length_fault w
fault_of_law w (suc (suc zero)) = cocycle_range_fault w
fault_of_law w (suc (suc (suc zero))) = diagonal_fault w
fault_of_law w (suc (suc (suc (suc k)))) = cocycle_law_fault w

by_laws : (w : Cochain) → first_cocycle_fault w ≡ first 5 (fault_of_law w)
by_laws w =
    ap (λ o. or_else (modulus_fault w) (or_else (cocycle_length_fault w) (or_else (cocycle_range_fault w) (or_else (diagonal_fault w) o))))
    (sym (or_else_none (cocycle_law_fault w)))

-- where a law has no first fault, it has none
no_fault_of_law : (w : Cochain) (fault : CocycleFault) → fault_of_law w (cocycle_law_rank fault) ≡ None → IsCocycleFaultOf w fault → ⊥
no_fault_of_law w Modulus none fails = modulus_holds w none fails
no_fault_of_law w Length none fails = length_holds w none fails
no_fault_of_law w (Range x y) none fails =
    let n = w.quandle.order in
    range_holds w x y (first_none (cocycle_range_case w x) n y (first_none (λ v. first n (cocycle_range_case w v)) n x none fails.0) fails.1) fails
no_fault_of_law w (Diagonal x) none fails = diagonal_holds w x (first_none (diagonal_case w) w.quandle.order x none fails.0) fails
no_fault_of_law w (Law x y z) none fails =
    let n = w.quandle.order in
    law_holds w x y z
    (first_none (law_case w x y) n z
    (first_none (λ v. first n (law_case w x v)) n y
    (first_none (λ u. first n (λ v. first n (law_case w u v))) n x none fails.0) fails.1) fails.2)
    fails

-- the first fault of one law: it is one, and no smaller case of the law is
record IsFirstOfLaw (w : Cochain) (k : ℕ) (fault : CocycleFault) : Type 0 where
  is_of : cocycle_law_rank fault ≡ k
  fails : IsCocycleFaultOf w fault
  smaller : (other : CocycleFault) → cocycle_law_rank other ≡ k → ComesBefore (cocycle_case_of other) (cocycle_case_of fault) → IsCocycleFaultOf w other → ⊥

smaller_range : (w : Cochain) (x y : ℕ)
    → ((u v : ℕ) → u < w.quandle.order → v < w.quandle.order → ComesBefore (u ∷ v ∷ []) (x ∷ y ∷ []) → cocycle_range_case w u v ≡ None)
    → (other : CocycleFault) → cocycle_law_rank other ≡ 2 → ComesBefore (cocycle_case_of other) (x ∷ y ∷ []) → IsCocycleFaultOf w other → ⊥
smaller_range w x y before Modulus is less fails = absurd (omega (arith, is))
smaller_range w x y before Length is less fails = absurd (omega (arith, is))
smaller_range w x y before (Range u v) is less fails = range_holds w u v (before u v fails.0 fails.1 less) fails
smaller_range w x y before (Diagonal u) is less fails = absurd (omega (arith, is))
smaller_range w x y before (Law t u v) is less fails = absurd (omega (arith, is))

smaller_diagonal : (w : Cochain) (x : ℕ)
    → ((u : ℕ) → u < w.quandle.order → ComesBefore (u ∷ []) (x ∷ []) → diagonal_case w u ≡ None)
    → (other : CocycleFault) → cocycle_law_rank other ≡ 3 → ComesBefore (cocycle_case_of other) (x ∷ []) → IsCocycleFaultOf w other → ⊥
smaller_diagonal w x before Modulus is less fails = absurd (omega (arith, is))
smaller_diagonal w x before Length is less fails = absurd (omega (arith, is))
smaller_diagonal w x before (Range u v) is less fails = absurd (omega (arith, is))
smaller_diagonal w x before (Diagonal u) is less fails = diagonal_holds w u (before u fails.0 less) fails
smaller_diagonal w x before (Law t u v) is less fails = absurd (omega (arith, is))

smaller_law : (w : Cochain) (x y z : ℕ)
    → ((t u v : ℕ) → t < w.quandle.order → u < w.quandle.order → v < w.quandle.order → ComesBefore (t ∷ u ∷ v ∷ []) (x ∷ y ∷ z ∷ [])
    → law_case w t u v ≡ None)
    → (other : CocycleFault) → cocycle_law_rank other ≡ 4 → ComesBefore (cocycle_case_of other) (x ∷ y ∷ z ∷ []) → IsCocycleFaultOf w other → ⊥
smaller_law w x y z before Modulus is less fails = absurd (omega (arith, is))
smaller_law w x y z before Length is less fails = absurd (omega (arith, is))
smaller_law w x y z before (Range u v) is less fails = absurd (omega (arith, is))
smaller_law w x y z before (Diagonal u) is less fails = absurd (omega (arith, is))
smaller_law w x y z before (Law t u v) is less fails = law_holds w t u v (before t u v fails.0 fails.1 fails.2 less) fails

-- a fault without colours has no smaller one
of_law : (w : Cochain) (k : ℕ) (fault : CocycleFault) → k < 5 → fault_of_law w k ≡ Some fault → IsFirstOfLaw w k fault
of_law w zero fault lt found =
    let parts = unless_some (nat_le 2 w.modulus) Modulus fault found in
    subst (IsFirstOfLaw w 0) parts.1
    (record { is_of = refl; fails = modulus_fails w parts.0; smaller = λ other is less also. no_smaller (cocycle_case_of other) less })
of_law w (suc zero) fault lt found =
    let parts = unless_some (length w.entries == w.quandle.order * w.quandle.order) Length fault found in
    subst (IsFirstOfLaw w 1) parts.1
    (record { is_of = refl; fails = length_fails w parts.0; smaller = λ other is less also. no_smaller (cocycle_case_of other) less })
of_law w (suc (suc zero)) fault lt found =
    let l = least2 w.quandle.order (cocycle_range_case w) fault found in
    let parts = unless_some (nat_lt (value w l.x l.y) w.modulus) (Range l.x l.y) fault l.here in
    subst (IsFirstOfLaw w 2) parts.1
    (record {
      is_of = refl;
      fails = (l.below.0, l.below.1, above_modulus w l.x l.y parts.0);
      smaller = smaller_range w l.x l.y l.before;
    })
of_law w (suc (suc (suc zero))) fault lt found =
    let l = least1 w.quandle.order (diagonal_case w) fault found in
    let parts = unless_some (value w l.x l.x == 0) (Diagonal l.x) fault l.here in
    subst (IsFirstOfLaw w 3) parts.1
    (record { is_of = refl; fails = (l.below, other_than_zero w l.x parts.0); smaller = smaller_diagonal w l.x l.before })
of_law w (suc (suc (suc (suc zero)))) fault lt found =
    let l = least3 w.quandle.order (law_case w) fault found in
    let parts = unless_some (obeys w l.x l.y l.z) (Law l.x l.y l.z) fault l.here in
    subst (IsFirstOfLaw w 4) parts.1
    (record {
      is_of = refl;
      fails = (l.below.0, l.below.1, l.below.2, sides_differ w l.x l.y l.z parts.0);
      smaller = smaller_law w l.x l.y l.z l.before;
    })
of_law w (suc (suc (suc (suc (suc k))))) fault lt found = absurd (omega (arith, lt))

-- what the search finds comes first
pub found_is_first : (w : Cochain) (fault : CocycleFault) → first_cocycle_fault w ≡ Some fault → IsFirstCocycleFault w fault
found_is_first w fault found =
    let l = least1 5 (fault_of_law w) fault (sym (by_laws w) ∙ found) in
    let here = of_law w l.x fault l.below l.here in
    record {
      fails = here.fails;
      earlier = λ other under also.
          no_fault_of_law w other (l.before (cocycle_law_rank other) (omega (arith, under, here.is_of, l.below)) (inl (omega (arith, under, here.is_of)))) also;
      smaller = λ other same less also. here.smaller other (same ∙ here.is_of) less also;
    }

-- the first case with an answer is found
found1 : {A : Type 0} (n : ℕ) (at : ℕ → Option A) (a : A) (x : ℕ) → x < n → at x ≡ Some a → ((v : ℕ) → v < x → at v ≡ None) → first n at ≡ Some a
found1 n at a x lt here before = first_found at n x a lt (first_all at x before) here

found2 : {A : Type 0} (n : ℕ) (at : ℕ → ℕ → Option A) (a : A) (x y : ℕ) → x < n → y < n → at x y ≡ Some a
    → ((u v : ℕ) → u < n → v < n → ComesBefore (u ∷ v ∷ []) (x ∷ y ∷ []) → at u v ≡ None) → first n (λ u. first n (at u)) ≡ Some a
found2 n at a x y lt by_y here before =
    found1 n (λ u. first n (at u)) a x lt
    (found1 n (at x) a y by_y here (λ v less. before x v lt (omega (arith, less, by_y)) (inr (refl, inl less))))
    (λ u less. first_all (at u) n (λ v by_v. before u v (omega (arith, less, lt)) by_v (inl less)))

found3 : {A : Type 0} (n : ℕ) (at : ℕ → ℕ → ℕ → Option A) (a : A) (x y z : ℕ) → x < n → y < n → z < n → at x y z ≡ Some a
    → ((t u v : ℕ) → t < n → u < n → v < n → ComesBefore (t ∷ u ∷ v ∷ []) (x ∷ y ∷ z ∷ []) → at t u v ≡ None)
    → first n (λ t. first n (λ u. first n (at t u))) ≡ Some a
found3 n at a x y z lt by_y by_z here before =
    found1 n (λ t. first n (λ u. first n (at t u))) a x lt
    (found2 n (at x) a y z by_y by_z here (λ u v by_u by_v less. before x u v lt by_u by_v (inr (refl, less))))
    (λ t less. first_all (λ u. first n (at t u)) n (λ u by_u. first_all (at t u) n (λ v by_v. before t u v (omega (arith, less, lt)) by_u by_v (inl less))))

-- a case that can't fail gives no fault
none_by : {A : Type 0} (b : Bool) (a : A) → (b ≡ false → ⊥) → unless b a ≡ None
none_by true a holds = refl
none_by false a holds = absurd (holds refl)

range_none : (w : Cochain) (x y : ℕ) → x < w.quandle.order → y < w.quandle.order → (IsCocycleFaultOf w (Range x y) → ⊥) → cocycle_range_case w x y ≡ None
range_none w x y lt by_y holds = none_by (nat_lt (value w x y) w.modulus) (Range x y) (λ e. holds (lt, by_y, above_modulus w x y e))

diagonal_none : (w : Cochain) (x : ℕ) → x < w.quandle.order → (IsCocycleFaultOf w (Diagonal x) → ⊥) → diagonal_case w x ≡ None
diagonal_none w x lt holds = none_by (value w x x == 0) (Diagonal x) (λ e. holds (lt, other_than_zero w x e))

law_none : (w : Cochain) (x y z : ℕ) → x < w.quandle.order → y < w.quandle.order → z < w.quandle.order → (IsCocycleFaultOf w (Law x y z) → ⊥)
    → law_case w x y z ≡ None
law_none w x y z lt by_y by_z holds = none_by (obeys w x y z) (Law x y z) (λ e. holds (lt, by_y, by_z, sides_differ w x y z e))

-- a test that would be a fault fails
-- a fault that comes first in its law is what the search of the law finds
found_in_law : (w : Cochain) (fault : CocycleFault) → IsFirstCocycleFault w fault → fault_of_law w (cocycle_law_rank fault) ≡ Some fault
found_in_law w Modulus first_is =
    unless_false (nat_le 2 w.modulus) Modulus
    (false_from_ne_true (nat_le 2 w.modulus) (λ e. let least = leb-true 2 w.modulus e in absurd (omega (arith, least, first_is.fails))))
found_in_law w Length first_is =
    unless_false (length w.entries == w.quandle.order * w.quandle.order) Length
    (false_from_ne_true (length w.entries == w.quandle.order * w.quandle.order)
    (λ e. first_is.fails (eqb-true (length w.entries) (w.quandle.order * w.quandle.order) e)))
found_in_law w (Range x y) first_is =
    found2 w.quandle.order (cocycle_range_case w) (Range x y) x y first_is.fails.0 first_is.fails.1
    (unless_false (nat_lt (value w x y) w.modulus) (Range x y)
    (false_from_ne_true (nat_lt (value w x y) w.modulus) (λ e. let under = ltb-true (value w x y) w.modulus e in absurd (omega (arith, under, first_is.fails.2)))))
    (λ u v lt by_v less. range_none w u v lt by_v (first_is.smaller (Range u v) refl less))
found_in_law w (Diagonal x) first_is =
    found1 w.quandle.order (diagonal_case w) (Diagonal x) x first_is.fails.0
    (unless_false (value w x x == 0) (Diagonal x) (false_from_ne_true (value w x x == 0) (λ e. first_is.fails.1 (eqb-true (value w x x) 0 e))))
    (λ u less. diagonal_none w u (omega (arith, less, first_is.fails.0)) (first_is.smaller (Diagonal u) refl (inl less)))
found_in_law w (Law x y z) first_is =
    found3 w.quandle.order (law_case w) (Law x y z) x y z first_is.fails.0 first_is.fails.1 first_is.fails.2
    (unless_false (obeys w x y z) (Law x y z)
    (false_from_ne_true (obeys w x y z) (λ e. first_is.fails.3 (eqb-true (one_side w x y z) (other_side w x y z) e))))
    (λ t u v lt by_u by_v less. law_none w t u v lt by_u by_v (first_is.smaller (Law t u v) refl less))

-- a law with no fault has no first one
none_in_law : (w : Cochain) (k : ℕ) → k < 5 → ((other : CocycleFault) → cocycle_law_rank other ≡ k → IsCocycleFaultOf w other → ⊥) → fault_of_law w k ≡ None
none_in_law w zero lt holds = none_by (nat_le 2 w.modulus) Modulus (λ e. holds Modulus refl (modulus_fails w e))
none_in_law w (suc zero) lt holds =
    none_by (length w.entries == w.quandle.order * w.quandle.order) Length (λ e. holds Length refl (length_fails w e))
none_in_law w (suc (suc zero)) lt holds =
    let n = w.quandle.order in
    first_all (λ x. first n (cocycle_range_case w x)) n
    (λ x by_x. first_all (cocycle_range_case w x) n (λ y by_y. range_none w x y by_x by_y (holds (Range x y) refl)))
none_in_law w (suc (suc (suc zero))) lt holds =
    first_all (diagonal_case w) w.quandle.order (λ x by_x. diagonal_none w x by_x (holds (Diagonal x) refl))
none_in_law w (suc (suc (suc (suc zero)))) lt holds =
    let n = w.quandle.order in
    first_all (λ x. first n (λ y. first n (law_case w x y))) n (λ x by_x.
    first_all (λ y. first n (law_case w x y)) n (λ y by_y.
    first_all (law_case w x y) n (λ z by_z. law_none w x y z by_x by_y by_z (holds (Law x y z) refl))))
none_in_law w (suc (suc (suc (suc (suc k))))) lt holds = absurd (omega (arith, lt))

kinds : (fault : CocycleFault) → cocycle_law_rank fault < 5
kinds Modulus = omega arith
kinds Length = omega arith
kinds (Range x y) = omega arith
kinds (Diagonal x) = omega arith
kinds (Law x y z) = omega arith

-- what comes first is what the search finds
pub first_is_found : (w : Cochain) (fault : CocycleFault) → IsFirstCocycleFault w fault → first_cocycle_fault w ≡ Some fault
first_is_found w fault first_is =
    by_laws w
    ∙ found1 5 (fault_of_law w) fault (cocycle_law_rank fault) (kinds fault) (found_in_law w fault first_is)
    (λ k less. none_in_law w k (omega (arith, less, kinds fault)) (λ other is also. first_is.earlier other (omega (arith, is, less)) also))
