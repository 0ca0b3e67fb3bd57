-- The first fault, told without a search: its case fails, and no case before it.
use Rattle.std.proofs.Common.{◌≡◌, ◌≢◌, ◌<◌, ◌≤◌, ◌*◌, ◌%◌, ◌==◌, ◌∙◌, inl, inr, ℕ, zero, suc, [], ◌∷◌, Bool, true, false, Option, Some, None, length, refl}
use Rattle.std.proofs.Common.{sym, ap, subst, arith}
use Rattle.std.specs.Prelude.{nat_lt, nat_le}
use Rattle.std.proofs.lemmas.Bool.{le-leb, eqb-true, eq-eqb, ltb-true, lt-ltb, leb-true, cases_lt, both_ways, false_from_ne_true}
use Rattle.quandle_core.specs.Colours.{ComesBefore}
use Rattle.quandle_core.specs.Fault.{first, or_else, unless}
use Rattle.quandle_core.proofs.Firsts.{first_none, first_found, first_all, unless_none, unless_false, or_else_none}
use Rattle.quandle_laws.proofs.Leasts.{least1, least2, least3, unless_some}
use Rattle.quandle_laws.proofs.QuandleFaults.{no_smaller}
use Rattle.cocycle_core.specs.ShadowCocycle.{ShadowCochain, shadow_value, one_side, other_side}
use Rattle.cocycle_core.specs.ShadowCases.{IsShadowFaultOf, IsFirstShadowFault, shadow_law_rank, shadow_case_of}
use Rattle.cocycle_core.specs.ShadowFault.{shadow_modulus_fault, shadow_length_fault, shadow_range_fault, shadow_diagonal_fault, shadow_law_fault}
use Rattle.cocycle_core.specs.ShadowFault.{first_shadow_fault, shadow_range_case, shadow_diagonal_case, shadow_law_case, shadow_obeys}
use Rattle.cocycle_core.specs.declared.shadow_fault.ShadowFault.{ShadowFault}
use Rattle.cocycle_core.specs.declared.shadow_fault.ShadowFault.TheVariants.{Modulus, Length, Range, Diagonal, Law}

-- one case that is no fault
modulus_holds : (w : ShadowCochain) → shadow_modulus_fault w ≡ None → IsShadowFaultOf w Modulus → ⊥
modulus_holds w none fails =
    let least = leb-true 2 w.modulus (unless_none (nat_le 2 w.modulus) Modulus none) in
    absurd (omega (arith, least, fails))

length_holds : (w : ShadowCochain) → shadow_length_fault w ≡ None → IsShadowFaultOf w Length → ⊥
length_holds w none fails =
    fails (eqb-true (length w.entries) (w.quandle.order * w.quandle.order * w.quandle.order)
    (unless_none (length w.entries == w.quandle.order * w.quandle.order * w.quandle.order) Length none))

range_holds : (w : ShadowCochain) (u x y : ℕ) → shadow_range_case w u x y ≡ None → IsShadowFaultOf w (Range u x y) → ⊥
range_holds w u x y none fails =
    let under = ltb-true (shadow_value w u x y) w.modulus (unless_none (nat_lt (shadow_value w u x y) w.modulus) (Range u x y) none) in
    absurd (omega (arith, under, fails.3))

diagonal_holds : (w : ShadowCochain) (u x : ℕ) → shadow_diagonal_case w u x ≡ None → IsShadowFaultOf w (Diagonal u x) → ⊥
diagonal_holds w u x none fails = fails.2 (eqb-true (shadow_value w u x x) 0 (unless_none (shadow_value w u x x == 0) (Diagonal u x) none))

law_holds : (w : ShadowCochain) (a b c d : ℕ) → shadow_law_case w a b c d ≡ None → IsShadowFaultOf w (Law a b c d) → ⊥
law_holds w a b c d none fails =
    fails.4 (eqb-true (one_side w a b c d % w.modulus) (other_side w a b c d % w.modulus) (unless_none (shadow_obeys w a b c d) (Law a b c d) none))

-- a case whose test fails is a fault
modulus_fails : (w : ShadowCochain) → nat_le 2 w.modulus ≡ false → IsShadowFaultOf w Modulus
modulus_fails w e = elim (cases_lt w.modulus 2) [
  | inl under ↦ under
  | inr least ↦ absurd (both_ways (nat_le 2 w.modulus) e (le-leb 2 w.modulus least))
]

length_fails : (w : ShadowCochain) → (length w.entries == w.quandle.order * w.quandle.order * w.quandle.order) ≡ false → IsShadowFaultOf w Length
length_fails w e = λ same.
    both_ways (length w.entries == w.quandle.order * w.quandle.order * w.quandle.order) e
    (eq-eqb (length w.entries) (w.quandle.order * w.quandle.order * w.quandle.order) same)

above_modulus : (w : ShadowCochain) (u x y : ℕ) → nat_lt (shadow_value w u x y) w.modulus ≡ false → w.modulus ≤ shadow_value w u x y
above_modulus w u x y e = elim (cases_lt (shadow_value w u x y) w.modulus) [
  | inl under ↦ absurd (both_ways (nat_lt (shadow_value w u x y) w.modulus) e (lt-ltb (shadow_value w u x y) w.modulus under))
  | inr above ↦ above
]

other_than_zero : (w : ShadowCochain) (u x : ℕ) → (shadow_value w u x x == 0) ≡ false → shadow_value w u x x ≢ 0
other_than_zero w u x e = λ same. both_ways (shadow_value w u x x == 0) e (eq-eqb (shadow_value w u x x) 0 same)

sides_differ : (w : ShadowCochain) (a b c d : ℕ) → shadow_obeys w a b c d ≡ false → one_side w a b c d % w.modulus ≢ other_side w a b c d % w.modulus
sides_differ w a b c d e = λ same.
    both_ways (shadow_obeys w a b c d) e (eq-eqb (one_side w a b c d % w.modulus) (other_side w a b c d % w.modulus) same)

-- the first fault of each law
abbrev fault_of_law : ShadowCochain → ℕ → Option ShadowFault
fault_of_law w zero = shadow_modulus_fault w
fault_of_law w (suc zero) = shadow_length_fault w
fault_of_law w (suc (suc zero)) = shadow_range_fault w
fault_of_law w (suc (suc (suc zero))) = shadow_diagonal_fault w
fault_of_law w (suc (suc (suc (suc k)))) = shadow_law_fault w

by_laws : (w : ShadowCochain) → first_shadow_fault w ≡ first 5 (fault_of_law w)
by_laws w =
    ap (λ o. or_else (shadow_modulus_fault w) (or_else (shadow_length_fault w) (or_else (shadow_range_fault w) (or_else (shadow_diagonal_fault w) o))))
    (sym (or_else_none (shadow_law_fault w)))

-- where a law has no first fault, it has none
no_fault_of_law : (w : ShadowCochain) (fault : ShadowFault) → fault_of_law w (shadow_law_rank fault) ≡ None → IsShadowFaultOf w fault → ⊥
no_fault_of_law w Modulus none fails = modulus_holds w none fails
no_fault_of_law w Length none fails = length_holds w none fails
no_fault_of_law w (Range u x y) none fails =
    let n = w.quandle.order in
    range_holds w u x y
    (first_none (shadow_range_case w u x) n y
    (first_none (λ v. first n (shadow_range_case w u v)) n x
    (first_none (λ t. first n (λ v. first n (shadow_range_case w t v))) n u none fails.0) fails.1) fails.2)
    fails
no_fault_of_law w (Diagonal u x) none fails =
    let n = w.quandle.order in
    diagonal_holds w u x (first_none (shadow_diagonal_case w u) n x (first_none (λ v. first n (shadow_diagonal_case w v)) n u none fails.0) fails.1) fails
no_fault_of_law w (Law a b c d) none fails =
    let n = w.quandle.order in
    law_holds w a b c d
    (first_none (shadow_law_case w a b c) n d
    (first_none (λ v. first n (shadow_law_case w a b v)) n c
    (first_none (λ u. first n (λ v. first n (shadow_law_case w a u v))) n b
    (first_none (λ t. first n (λ u. first n (λ v. first n (shadow_law_case w t u v)))) n a none fails.0) fails.1) fails.2) fails.3)
    fails

-- the first fault of one law: it is one, and no smaller case of the law is
record IsFirstOfLaw (w : ShadowCochain) (k : ℕ) (fault : ShadowFault) : Type 0 where
  is_of : shadow_law_rank fault ≡ k
  fails : IsShadowFaultOf w fault
  smaller : (other : ShadowFault) → shadow_law_rank other ≡ k → ComesBefore (shadow_case_of other) (shadow_case_of fault) → IsShadowFaultOf w other → ⊥

smaller_range : (w : ShadowCochain) (u x y : ℕ)
    → ((q v z : ℕ) → q < w.quandle.order → v < w.quandle.order → z < w.quandle.order → ComesBefore (q ∷ v ∷ z ∷ []) (u ∷ x ∷ y ∷ [])
    → shadow_range_case w q v z ≡ None)
    → (other : ShadowFault) → shadow_law_rank other ≡ 2 → ComesBefore (shadow_case_of other) (u ∷ x ∷ y ∷ []) → IsShadowFaultOf w other → ⊥
smaller_range w u x y before Modulus is less fails = absurd (omega (arith, is))
smaller_range w u x y before Length is less fails = absurd (omega (arith, is))
smaller_range w u x y before (Range q v z) is less fails = range_holds w q v z (before q v z fails.0 fails.1 fails.2 less) fails
smaller_range w u x y before (Diagonal q v) is less fails = absurd (omega (arith, is))
smaller_range w u x y before (Law q r t v) is less fails = absurd (omega (arith, is))

smaller_diagonal : (w : ShadowCochain) (u x : ℕ)
    → ((q v : ℕ) → q < w.quandle.order → v < w.quandle.order → ComesBefore (q ∷ v ∷ []) (u ∷ x ∷ []) → shadow_diagonal_case w q v ≡ None)
    → (other : ShadowFault) → shadow_law_rank other ≡ 3 → ComesBefore (shadow_case_of other) (u ∷ x ∷ []) → IsShadowFaultOf w other → ⊥
smaller_diagonal w u x before Modulus is less fails = absurd (omega (arith, is))
smaller_diagonal w u x before Length is less fails = absurd (omega (arith, is))
smaller_diagonal w u x before (Range q v z) is less fails = absurd (omega (arith, is))
smaller_diagonal w u x before (Diagonal q v) is less fails = diagonal_holds w q v (before q v fails.0 fails.1 less) fails
smaller_diagonal w u x before (Law q r t v) is less fails = absurd (omega (arith, is))

smaller_law : (w : ShadowCochain) (a b c d : ℕ)
    → ((q r t v : ℕ) → q < w.quandle.order → r < w.quandle.order → t < w.quandle.order → v < w.quandle.order
    → ComesBefore (q ∷ r ∷ t ∷ v ∷ []) (a ∷ b ∷ c ∷ d ∷ []) → shadow_law_case w q r t v ≡ None)
    → (other : ShadowFault) → shadow_law_rank other ≡ 4 → ComesBefore (shadow_case_of other) (a ∷ b ∷ c ∷ d ∷ []) → IsShadowFaultOf w other → ⊥
smaller_law w a b c d before Modulus is less fails = absurd (omega (arith, is))
smaller_law w a b c d before Length is less fails = absurd (omega (arith, is))
smaller_law w a b c d before (Range q v z) is less fails = absurd (omega (arith, is))
smaller_law w a b c d before (Diagonal q v) is less fails = absurd (omega (arith, is))
smaller_law w a b c d before (Law q r t v) is less fails = law_holds w q r t v (before q r t v fails.0 fails.1 fails.2 fails.3 less) fails

-- four colours
record Least4 {A : Type 0} (n : ℕ) (at : ℕ → ℕ → ℕ → ℕ → Option A) (a : A) : Type 0 where
  x : ℕ
  y : ℕ
  z : ℕ
  v : ℕ
  below : (x < n) × (y < n) × (z < n) × (v < n)
  here : at x y z v ≡ Some a
  before : (q r t u : ℕ) → q < n → r < n → t < n → u < n → ComesBefore (q ∷ r ∷ t ∷ u ∷ []) (x ∷ y ∷ z ∷ v ∷ []) → at q r t u ≡ None

least4 : {A : Type 0} (n : ℕ) (at : ℕ → ℕ → ℕ → ℕ → Option A) (a : A) → first n (λ x. first n (λ y. first n (λ z. first n (at x y z)))) ≡ Some a
    → Least4 n at a
least4 n at a e =
    let outer = least1 n (λ x. first n (λ y. first n (λ z. first n (at x y z)))) a e in
    let inner = least3 n (at outer.x) a outer.here in
    record {
      x = outer.x;
      y = inner.x;
      z = inner.y;
      v = inner.z;
      below = (outer.below, inner.below.0, inner.below.1, inner.below.2);
      here = inner.here;
      before = λ q r t u lt by_r by_t by_u less. elim less [
        | inl under ↦
            first_none (at q r t) n u
            (first_none (λ z. first n (at q r z)) n t (first_none (λ y. first n (λ z. first n (at q y z))) n r (outer.before q lt (inl under)) by_r) by_t) by_u
        | inr same ↦ subst (λ (k : ℕ). at k r t u ≡ None) (sym same.0) (inner.before r t u by_r by_t by_u same.1)
      ];
    }

-- a fault without colours has no smaller one
of_law : (w : ShadowCochain) (k : ℕ) (fault : ShadowFault) → k < 5 → fault_of_law w k ≡ Some fault → IsFirstOfLaw w k fault
of_law w zero fault lt found =
    let parts = unless_some (nat_le 2 w.modulus) Modulus fault found in
    subst (IsFirstOfLaw w 0) parts.1
    (record { is_of = refl; fails = modulus_fails w parts.0; smaller = λ other is less also. no_smaller (shadow_case_of other) less })
of_law w (suc zero) fault lt found =
    let parts = unless_some (length w.entries == w.quandle.order * w.quandle.order * w.quandle.order) Length fault found in
    subst (IsFirstOfLaw w 1) parts.1
    (record { is_of = refl; fails = length_fails w parts.0; smaller = λ other is less also. no_smaller (shadow_case_of other) less })
of_law w (suc (suc zero)) fault lt found =
    let l = least3 w.quandle.order (shadow_range_case w) fault found in
    let parts = unless_some (nat_lt (shadow_value w l.x l.y l.z) w.modulus) (Range l.x l.y l.z) fault l.here in
    subst (IsFirstOfLaw w 2) parts.1
    (record {
      is_of = refl;
      fails = (l.below.0, l.below.1, l.below.2, above_modulus w l.x l.y l.z parts.0);
      smaller = smaller_range w l.x l.y l.z l.before;
    })
of_law w (suc (suc (suc zero))) fault lt found =
    let l = least2 w.quandle.order (shadow_diagonal_case w) fault found in
    let parts = unless_some (shadow_value w l.x l.y l.y == 0) (Diagonal l.x l.y) fault l.here in
    subst (IsFirstOfLaw w 3) parts.1
    (record { is_of = refl; fails = (l.below.0, l.below.1, other_than_zero w l.x l.y parts.0); smaller = smaller_diagonal w l.x l.y l.before })
of_law w (suc (suc (suc (suc zero)))) fault lt found =
    let l = least4 w.quandle.order (shadow_law_case w) fault found in
    let parts = unless_some (shadow_obeys w l.x l.y l.z l.v) (Law l.x l.y l.z l.v) fault l.here in
    subst (IsFirstOfLaw w 4) parts.1
    (record {
      is_of = refl;
      fails = (l.below.0, l.below.1, l.below.2, l.below.3, sides_differ w l.x l.y l.z l.v parts.0);
      smaller = smaller_law w l.x l.y l.z l.v l.before;
    })
of_law w (suc (suc (suc (suc (suc k))))) fault lt found = absurd (omega (arith, lt))

-- what the search finds comes first
pub found_is_first : (w : ShadowCochain) (fault : ShadowFault) → first_shadow_fault w ≡ Some fault → IsFirstShadowFault w fault
found_is_first w fault found =
    let l = least1 5 (fault_of_law w) fault (sym (by_laws w) ∙ found) in
    let here = of_law w l.x fault l.below l.here in
    record {
      fails = here.fails;
      earlier = λ other under also.
          no_fault_of_law w other (l.before (shadow_law_rank other) (omega (arith, under, here.is_of, l.below)) (inl (omega (arith, under, here.is_of)))) also;
      smaller = λ other same less also. here.smaller other (same ∙ here.is_of) less also;
    }

-- the first case with an answer is found
found1 : {A : Type 0} (n : ℕ) (at : ℕ → Option A) (a : A) (x : ℕ) → x < n → at x ≡ Some a → ((v : ℕ) → v < x → at v ≡ None) → first n at ≡ Some a
found1 n at a x lt here before = first_found at n x a lt (first_all at x before) here

found2 : {A : Type 0} (n : ℕ) (at : ℕ → ℕ → Option A) (a : A) (x y : ℕ) → x < n → y < n → at x y ≡ Some a
    → ((u v : ℕ) → u < n → v < n → ComesBefore (u ∷ v ∷ []) (x ∷ y ∷ []) → at u v ≡ None) → first n (λ u. first n (at u)) ≡ Some a
found2 n at a x y lt by_y here before =
    found1 n (λ u. first n (at u)) a x lt
    (found1 n (at x) a y by_y here (λ v less. before x v lt (omega (arith, less, by_y)) (inr (refl, inl less))))
    (λ u less. first_all (at u) n (λ v by_v. before u v (omega (arith, less, lt)) by_v (inl less)))

found3 : {A : Type 0} (n : ℕ) (at : ℕ → ℕ → ℕ → Option A) (a : A) (x y z : ℕ) → x < n → y < n → z < n → at x y z ≡ Some a
    → ((t u v : ℕ) → t < n → u < n → v < n → ComesBefore (t ∷ u ∷ v ∷ []) (x ∷ y ∷ z ∷ []) → at t u v ≡ None)
    → first n (λ t. first n (λ u. first n (at t u))) ≡ Some a
found3 n at a x y z lt by_y by_z here before =
    found1 n (λ t. first n (λ u. first n (at t u))) a x lt
    (found2 n (at x) a y z by_y by_z here (λ u v by_u by_v less. before x u v lt by_u by_v (inr (refl, less))))
    (λ t less. first_all (λ u. first n (at t u)) n (λ u by_u. first_all (at t u) n (λ v by_v. before t u v (omega (arith, less, lt)) by_u by_v (inl less))))

found4 : {A : Type 0} (n : ℕ) (at : ℕ → ℕ → ℕ → ℕ → Option A) (a : A) (x y z v : ℕ) → x < n → y < n → z < n → v < n → at x y z v ≡ Some a
    → ((q r t u : ℕ) → q < n → r < n → t < n → u < n → ComesBefore (q ∷ r ∷ t ∷ u ∷ []) (x ∷ y ∷ z ∷ v ∷ []) → at q r t u ≡ None)
    → first n (λ q. first n (λ r. first n (λ t. first n (at q r t)))) ≡ Some a
found4 n at a x y z v lt by_y by_z by_v here before =
    found1 n (λ q. first n (λ r. first n (λ t. first n (at q r t)))) a x lt
    (found3 n (at x) a y z v by_y by_z by_v here (λ r t u by_r by_t by_u less. before x r t u lt by_r by_t by_u (inr (refl, less))))
    (λ q less. first_all (λ r. first n (λ t. first n (at q r t))) n (λ r by_r. first_all (λ t. first n (at q r t)) n (λ t by_t.
    first_all (at q r t) n (λ u by_u. before q r t u (omega (arith, less, lt)) by_r by_t by_u (inl less)))))

-- a case that can't fail gives no fault
none_by : {A : Type 0} (b : Bool) (a : A) → (b ≡ false → ⊥) → unless b a ≡ None
none_by true a holds = refl
none_by false a holds = absurd (holds refl)

range_none : (w : ShadowCochain) (u x y : ℕ) → u < w.quandle.order → x < w.quandle.order → y < w.quandle.order → (IsShadowFaultOf w (Range u x y) → ⊥)
    → shadow_range_case w u x y ≡ None
range_none w u x y lt by_x by_y holds = none_by (nat_lt (shadow_value w u x y) w.modulus) (Range u x y) (λ e. holds (lt, by_x, by_y, above_modulus w u x y e))

diagonal_none : (w : ShadowCochain) (u x : ℕ) → u < w.quandle.order → x < w.quandle.order → (IsShadowFaultOf w (Diagonal u x) → ⊥)
    → shadow_diagonal_case w u x ≡ None
diagonal_none w u x lt by_x holds = none_by (shadow_value w u x x == 0) (Diagonal u x) (λ e. holds (lt, by_x, other_than_zero w u x e))

law_none : (w : ShadowCochain) (a b c d : ℕ) → a < w.quandle.order → b < w.quandle.order → c < w.quandle.order → d < w.quandle.order
    → (IsShadowFaultOf w (Law a b c d) → ⊥) → shadow_law_case w a b c d ≡ None
law_none w a b c d la lb lc ld holds = none_by (shadow_obeys w a b c d) (Law a b c d) (λ e. holds (la, lb, lc, ld, sides_differ w a b c d e))

-- a fault that comes first in its law is what the search of the law finds
found_in_law : (w : ShadowCochain) (fault : ShadowFault) → IsFirstShadowFault w fault → fault_of_law w (shadow_law_rank fault) ≡ Some fault
found_in_law w Modulus first_is =
    unless_false (nat_le 2 w.modulus) Modulus
    (false_from_ne_true (nat_le 2 w.modulus) (λ e. let least = leb-true 2 w.modulus e in absurd (omega (arith, least, first_is.fails))))
found_in_law w Length first_is =
    unless_false (length w.entries == w.quandle.order * w.quandle.order * w.quandle.order) Length
    (false_from_ne_true (length w.entries == w.quandle.order * w.quandle.order * w.quandle.order)
    (λ e. first_is.fails (eqb-true (length w.entries) (w.quandle.order * w.quandle.order * w.quandle.order) e)))
found_in_law w (Range u x y) first_is =
    found3 w.quandle.order (shadow_range_case w) (Range u x y) u x y first_is.fails.0 first_is.fails.1 first_is.fails.2
    (unless_false (nat_lt (shadow_value w u x y) w.modulus) (Range u x y)
    (false_from_ne_true (nat_lt (shadow_value w u x y) w.modulus) (λ e. let under = ltb-true (shadow_value w u x y) w.modulus e in
    absurd (omega (arith, under, first_is.fails.3)))))
    (λ q v z lt by_v by_z less. range_none w q v z lt by_v by_z (first_is.smaller (Range q v z) refl less))
found_in_law w (Diagonal u x) first_is =
    found2 w.quandle.order (shadow_diagonal_case w) (Diagonal u x) u x first_is.fails.0 first_is.fails.1
    (unless_false (shadow_value w u x x == 0) (Diagonal u x)
    (false_from_ne_true (shadow_value w u x x == 0) (λ e. first_is.fails.2 (eqb-true (shadow_value w u x x) 0 e))))
    (λ q v lt by_v less. diagonal_none w q v lt by_v (first_is.smaller (Diagonal q v) refl less))
found_in_law w (Law a b c d) first_is =
    found4 w.quandle.order (shadow_law_case w) (Law a b c d) a b c d first_is.fails.0 first_is.fails.1 first_is.fails.2 first_is.fails.3
    (unless_false (shadow_obeys w a b c d) (Law a b c d)
    (false_from_ne_true (shadow_obeys w a b c d) (λ e. first_is.fails.4 (eqb-true (one_side w a b c d % w.modulus) (other_side w a b c d % w.modulus) e))))
    (λ q r t v by_q by_r by_t by_v less. law_none w q r t v by_q by_r by_t by_v (first_is.smaller (Law q r t v) refl less))

-- a law with no fault has no first one
none_in_law : (w : ShadowCochain) (k : ℕ) → k < 5 → ((other : ShadowFault) → shadow_law_rank other ≡ k → IsShadowFaultOf w other → ⊥) → fault_of_law w k ≡ None
none_in_law w zero lt holds = none_by (nat_le 2 w.modulus) Modulus (λ e. holds Modulus refl (modulus_fails w e))
none_in_law w (suc zero) lt holds =
    none_by (length w.entries == w.quandle.order * w.quandle.order * w.quandle.order) Length (λ e. holds Length refl (length_fails w e))
none_in_law w (suc (suc zero)) lt holds =
    let n = w.quandle.order in
    first_all (λ u. first n (λ x. first n (shadow_range_case w u x))) n (λ u by_u.
    first_all (λ x. first n (shadow_range_case w u x)) n (λ x by_x.
    first_all (shadow_range_case w u x) n (λ y by_y. range_none w u x y by_u by_x by_y (holds (Range u x y) refl))))
none_in_law w (suc (suc (suc zero))) lt holds =
    let n = w.quandle.order in
    first_all (λ u. first n (shadow_diagonal_case w u)) n (λ u by_u.
    first_all (shadow_diagonal_case w u) n (λ x by_x. diagonal_none w u x by_u by_x (holds (Diagonal u x) refl)))
none_in_law w (suc (suc (suc (suc zero)))) lt holds =
    let n = w.quandle.order in
    first_all (λ a. first n (λ b. first n (λ c. first n (shadow_law_case w a b c)))) n (λ a la.
    first_all (λ b. first n (λ c. first n (shadow_law_case w a b c))) n (λ b lb.
    first_all (λ c. first n (shadow_law_case w a b c)) n (λ c lc.
    first_all (shadow_law_case w a b c) n (λ d ld. law_none w a b c d la lb lc ld (holds (Law a b c d) refl)))))
none_in_law w (suc (suc (suc (suc (suc k))))) lt holds = absurd (omega (arith, lt))

kinds : (fault : ShadowFault) → shadow_law_rank fault < 5
kinds Modulus = omega arith
kinds Length = omega arith
kinds (Range u x y) = omega arith
kinds (Diagonal u x) = omega arith
kinds (Law a b c d) = omega arith

-- what comes first is what the search finds
pub first_is_found : (w : ShadowCochain) (fault : ShadowFault) → IsFirstShadowFault w fault → first_shadow_fault w ≡ Some fault
first_is_found w fault first_is =
    by_laws w
    ∙ found1 5 (fault_of_law w) fault (shadow_law_rank fault) (kinds fault) (found_in_law w fault first_is)
    (λ k less. none_in_law w k (omega (arith, less, kinds fault)) (λ other is also. first_is.earlier other (omega (arith, is, less)) also))
