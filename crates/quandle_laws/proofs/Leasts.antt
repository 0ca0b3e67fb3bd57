-- A first case that has an answer: no case before it has one.
use Rattle.std.proofs.Common.{◌≡◌, ◌<◌, ◌+◌, ◌∙◌, ◌⊎◌, inl, inr, ℕ, zero, suc, [], ◌∷◌, Bool, true, false, Option, Some, None, refl, sym, ap, subst, arith}
use Rattle.quandle_core.specs.Colours.{ComesBefore}
use Rattle.quandle_core.specs.Fault.{first, or_else, unless}
use Rattle.quandle_core.proofs.Firsts.{first_step, first_none}

-- the answer of a chain is its first link's, or the first link has none
pub one_of_two : {A : Type 0} (o p : Option A) (a : A) → or_else o p ≡ Some a → (o ≡ Some a) ⊎ ((o ≡ None) × (p ≡ Some a))
one_of_two (Some b) p a e = inl e
one_of_two None p a e = inr (refl, e)

-- where the test that leaves no fault gives one, the test fails
pub unless_some : {A : Type 0} (b : Bool) (a c : A) → unless b a ≡ Some c → (b ≡ false) × (a ≡ c)
unless_some true a c e = absurd (cc)
unless_some false a c e = (refl, cc)

-- one colour
pub record Least1 {A : Type 0} (n : ℕ) (at : ℕ → Option A) (a : A) : Type 0 where
  pub x : ℕ
  pub below : x < n
  pub here : at x ≡ Some a
  pub before : (v : ℕ) → v < n → ComesBefore (v ∷ []) (x ∷ []) → at v ≡ None

-- two colours
pub record Least2 {A : Type 0} (n : ℕ) (at : ℕ → ℕ → Option A) (a : A) : Type 0 where
  pub x : ℕ
  pub y : ℕ
  pub below : (x < n) × (y < n)
  pub here : at x y ≡ Some a
  pub before : (v w : ℕ) → v < n → w < n → ComesBefore (v ∷ w ∷ []) (x ∷ y ∷ []) → at v w ≡ None

-- three colours
pub record Least3 {A : Type 0} (n : ℕ) (at : ℕ → ℕ → ℕ → Option A) (a : A) : Type 0 where
  pub x : ℕ
  pub y : ℕ
  pub z : ℕ
  pub below : (x < n) × (y < n) × (z < n)
  pub here : at x y z ≡ Some a
  pub before : (u v w : ℕ) → u < n → v < n → w < n → ComesBefore (u ∷ v ∷ w ∷ []) (x ∷ y ∷ z ∷ []) → at u v w ≡ None

longer : {A : Type 0} (n : ℕ) (at : ℕ → Option A) (a : A) → Least1 n at a → Least1 (suc n) at a
longer n at a l = record {
  x = l.x;
  below = omega (arith, l.below);
  here = l.here;
  before = λ v lt less. elim less [
    | inl under ↦ l.before v (omega (arith, under, l.below)) (inl under)
    | inr same ↦ absurd same.1
  ];
}

pub least1 : {A : Type 0} (n : ℕ) (at : ℕ → Option A) (a : A) → first n at ≡ Some a → Least1 n at a
least1 zero at a e = absurd (cc)
least1 (suc n) at a e =
    let num : n + 1 ≡ suc n = omega arith in
    elim (one_of_two (first n at) (at n) a (sym (first_step at n) ∙ (ap (λ k. first k at) num ∙ e))) [
      | inl found ↦ longer n at a (least1 n at a found)
      | inr last ↦ record {
        x = n;
        below = omega arith;
        here = last.1;
        before = λ v lt less. elim less [
          | inl under ↦ first_none at n v last.0 under
          | inr same ↦ absurd same.1
        ];
      }
    ]

pub least2 : {A : Type 0} (n : ℕ) (at : ℕ → ℕ → Option A) (a : A) → first n (λ x. first n (λ y. at x y)) ≡ Some a → Least2 n at a
least2 n at a e =
    let outer = least1 n (λ x. first n (λ y. at x y)) a e in
    let inner = least1 n (λ y. at outer.x y) a outer.here in
    record {
      x = outer.x;
      y = inner.x;
      below = (outer.below, inner.below);
      here = inner.here;
      before = λ v w lt by_w less. elim less [
        | inl under ↦ first_none (λ y. at v y) n w (outer.before v lt (inl under)) by_w
        | inr same ↦ subst (λ (k : ℕ). at k w ≡ None) (sym same.0) (inner.before w by_w same.1)
      ];
    }

pub least3 : {A : Type 0} (n : ℕ) (at : ℕ → ℕ → ℕ → Option A) (a : A) → first n (λ x. first n (λ y. first n (λ z. at x y z))) ≡ Some a → Least3 n at a
least3 n at a e =
    let outer = least1 n (λ x. first n (λ y. first n (λ z. at x y z))) a e in
    let inner = least2 n (λ y z. at outer.x y z) a outer.here in
    record {
      x = outer.x;
      y = inner.x;
      z = inner.y;
      below = (outer.below, inner.below.0, inner.below.1);
      here = inner.here;
      before = λ u v w lt by_v by_w less. elim less [
        | inl under ↦ first_none (λ z. at u v z) n w (first_none (λ y. first n (λ z. at u y z)) n v (outer.before u lt (inl under)) by_v) by_w
        | inr same ↦ subst (λ (k : ℕ). at k v w ≡ None) (sym same.0) (inner.before v w by_v by_w same.1)
      ];
    }
