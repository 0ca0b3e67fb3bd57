-- Words that act alike on all tuples, and what that does to a part of a word.
use Rattle.std.proofs.Common.{◌≡◌, ◌<◌, ◌≤◌, ◌+◌, ◌∷◌, ◌++◌, ◌∙◌, ◌⊎◌, inl, inr, [], ℕ, ℤ, pos, negsuc, neg_ℤ, unsigned_abs, List, Bool}
use Rattle.std.proofs.Common.{true, false, not, cond, All, length, take, drop, arith, sym, refl, ap, ap₂, get_or}
use Rattle.std.specs.Prelude.{nat_le, ◌==◌, ◌&&◌, ◌||◌}
use Rattle.std.specs.Ordering.{int_eq}
use Rattle.std.proofs.lemmas.Bool.{leb-true, eqb-true, and_parts}
use Rattle.std.proofs.lemmas.Bool.Decides.{Decides-int_eq}
use Rattle.std.proofs.lemmas.List.{drop_more, take-append-drop}
use Rattle.std.proofs.lemmas.List.Elements.{All-get_or}
use Rattle.std.proofs.lemmas.List.Sums.{fold-append}
use Rattle.quandle_core.specs.Quandle.{Table, IsQuandle}
use Rattle.quandle_core.specs.Bijection.{IsBijection}
use Rattle.braid_core.specs.Braid.{IsLetter}
use Rattle.braid_core.specs.Action.{IsTuple, letter_action, action}
use Rattle.braid_core.specs.FixedPoints.{IsFixedPoint}
use Rattle.braid_laws.proofs.Letters.{letter_undone, action_bijection}
use Rattle.braid_moves.specs.Fault.{are_far, is_negative, are_triple}
use Rattle.braid_moves.proofs.Relations.{far_letters, triple_positive, triple_negative}

-- an action keeps tuples
pub acts_stay : (t : Table) → IsQuandle t → (m : ℕ) (letters : List ℤ) → All (IsLetter m) letters → (xs : List ℕ) → IsTuple t m xs
    → IsTuple t m (action t letters xs)
acts_stay t q m letters all xs tuple = (action_bijection t q m letters all).into xs tuple

abbrev pub ActAlike : Table → ℕ → List ℤ → List ℤ → Type 0
ActAlike t m us vs = (xs : List ℕ) → IsTuple t m xs → action t us xs ≡ action t vs xs

-- a part in the midst of a word
pub alike_within : (t : Table) → IsQuandle t → (m : ℕ) (front us vs rest : List ℤ) → All (IsLetter m) front → ActAlike t m us vs
    → ActAlike t m (front ++ (us ++ rest)) (front ++ (vs ++ rest))
alike_within t q m front us vs rest all alike xs tuple =
    fold-append (letter_action t) xs front (us ++ rest)
    ∙ (fold-append (letter_action t) (action t front xs) us rest
    ∙ (ap (action t rest) (alike (action t front xs) (acts_stay t q m front all xs tuple))
    ∙ (sym (fold-append (letter_action t) (action t front xs) vs rest) ∙ sym (fold-append (letter_action t) xs front (vs ++ rest)))))

-- words of the same strands that act alike have the same fixed points
pub alike_fixed : (t : Table) (m : ℕ) (us vs : List ℤ) → ActAlike t m us vs
    → IsBijection (IsFixedPoint t (record { strands = m; letters = us })) (IsFixedPoint t (record { strands = m; letters = vs })) (λ xs. xs)
alike_fixed t m us vs alike = record {
  into = λ xs point. record { tuple = point.tuple; fixed = sym (alike xs point.tuple) ∙ point.fixed };
  onto = λ ys point. (ys, record { tuple = point.tuple; fixed = alike ys point.tuple ∙ point.fixed }, refl);
  one = λ xs ys at_x at_y e. e;
}

-- letters that the word has at these places
abbrev pub at : List ℤ → ℕ → ℤ
at letters p = get_or letters p (pos 0)

pub two_at : (letters : List ℤ) (p : ℕ) → p + 1 < length letters → letters ≡ take p letters ++ at letters p ∷ at letters (p + 1) ∷ drop (p + 2) letters
two_at letters p lt =
    sym (take-append-drop p letters)
    ∙ ap (λ (ls : List ℤ). take p letters ++ ls) (drop_more letters p (pos 0) (omega arith) ∙ ap (λ (ls : List ℤ). at letters p ∷ ls)
    (drop_more letters (p + 1) (pos 0) lt ∙ ap (λ (k : ℕ). at letters (p + 1) ∷ drop k letters) (let e : p + 1 + 1 ≡ p + 2 = omega arith in e)))

pub three_at : (letters : List ℤ) (p : ℕ) → p + 2 < length letters
    → letters ≡ take p letters ++ at letters p ∷ at letters (p + 1) ∷ at letters (p + 2) ∷ drop (p + 3) letters
three_at letters p lt =
    two_at letters p (omega arith)
    ∙ ap (λ (ls : List ℤ). take p letters ++ at letters p ∷ at letters (p + 1) ∷ ls)
    (drop_more letters (p + 2) (pos 0) lt ∙ ap (λ (k : ℕ). at letters (p + 2) ∷ drop k letters) (let e : p + 2 + 1 ≡ p + 3 = omega arith in e))

pub letter_is : (m : ℕ) (letters : List ℤ) (p : ℕ) → All (IsLetter m) letters → p < length letters → IsLetter m (at letters p)
letter_is m letters p all lt = All-get_or (IsLetter m) letters p (pos 0) lt all

-- letters far from each other
far_cases : (a b : ℤ) → are_far a b ≡ true → (unsigned_abs a + 2 ≤ unsigned_abs b) ⊎ (unsigned_abs b + 2 ≤ unsigned_abs a)
far_cases a b far = by_test (nat_le (unsigned_abs a + 2) (unsigned_abs b)) refl far
  where
    by_test : (s : Bool) → nat_le (unsigned_abs a + 2) (unsigned_abs b) ≡ s → (s || nat_le (unsigned_abs b + 2) (unsigned_abs a)) ≡ true
        → (unsigned_abs a + 2 ≤ unsigned_abs b) ⊎ (unsigned_abs b + 2 ≤ unsigned_abs a)
    by_test true is e = inl (leb-true (unsigned_abs a + 2) (unsigned_abs b) is)
    by_test false is e = inr (leb-true (unsigned_abs b + 2) (unsigned_abs a) e)

pub far_alike : (t : Table) (m : ℕ) (a b : ℤ) → IsLetter m a → IsLetter m b → are_far a b ≡ true → ActAlike t m (a ∷ b ∷ []) (b ∷ a ∷ [])
far_alike t m a b at_a at_b far xs tuple =
    let least_a = at_a.least in
    let least_b = at_b.least in
    let most_a = at_a.most in
    let most_b = at_b.most in
    let n = tuple.0 in
    elim (far_cases a b far) [
      | inl less ↦ far_letters t a b xs least_a less (omega arith)
      | inr more ↦ sym (far_letters t b a xs least_b more (omega arith))
    ]

-- a letter and its negative
pub cancel_alike : (t : Table) → IsQuandle t → (m : ℕ) (a b : ℤ) → IsLetter m a → b ≡ neg_ℤ a → ActAlike t m (a ∷ b ∷ []) []
cancel_alike t q m a b at_a is xs tuple = ap (letter_action t (letter_action t xs a)) is ∙ letter_undone t q m a at_a xs tuple

-- three letters
data Neighbours (a b : ℤ) : Type 0 where
  up : (j k : ℕ) → j + 1 ≡ k → a ≡ pos j → b ≡ pos k → Neighbours a b
  down : (j k : ℕ) → j + 1 ≡ k → b ≡ pos j → a ≡ pos k → Neighbours a b
  up_under : (j k : ℕ) → j + 1 ≡ k → a ≡ negsuc j → b ≡ negsuc k → Neighbours a b
  down_under : (j k : ℕ) → j + 1 ≡ k → b ≡ negsuc j → a ≡ negsuc k → Neighbours a b

neighbours : (a b : ℤ) → (cond (is_negative a) (is_negative b) (not (is_negative b))) ≡ true
    → (unsigned_abs a + 1 ≡ unsigned_abs b) ⊎ (unsigned_abs b + 1 ≡ unsigned_abs a) → Neighbours a b
neighbours (pos j) (pos k) sign near = elim near [ inl e ↦ up j k e refl refl | inr e ↦ down k j e refl refl ]
neighbours (pos j) (negsuc k) sign near = absurd (let never : ◌≡◌ {A = Bool} false true = sign in cc)
neighbours (negsuc j) (pos k) sign near = absurd (let never : ◌≡◌ {A = Bool} false true = sign in cc)
neighbours (negsuc j) (negsuc k) sign near = elim near [ inl e ↦ up_under j k (omega arith) refl refl | inr e ↦ down_under k j (omega arith) refl refl ]

near_cases : (a b : ℤ) → ((unsigned_abs a + 1 == unsigned_abs b) || (unsigned_abs b + 1 == unsigned_abs a)) ≡ true
    → (unsigned_abs a + 1 ≡ unsigned_abs b) ⊎ (unsigned_abs b + 1 ≡ unsigned_abs a)
near_cases a b near = by_test (unsigned_abs a + 1 == unsigned_abs b) refl near
  where
    by_test : (s : Bool) → (unsigned_abs a + 1 == unsigned_abs b) ≡ s → (s || (unsigned_abs b + 1 == unsigned_abs a)) ≡ true
        → (unsigned_abs a + 1 ≡ unsigned_abs b) ⊎ (unsigned_abs b + 1 ≡ unsigned_abs a)
    by_test true is e = inl (eqb-true (unsigned_abs a + 1) (unsigned_abs b) is)
    by_test false is e = inr (eqb-true (unsigned_abs b + 1) (unsigned_abs a) e)

alike_at : (t : Table) (m : ℕ) (a b c d : ℤ) → a ≡ c → b ≡ d → ActAlike t m (c ∷ d ∷ c ∷ []) (d ∷ c ∷ d ∷ []) → ActAlike t m (a ∷ b ∷ a ∷ []) (b ∷ a ∷ b ∷ [])
alike_at t m a b c d a_is b_is alike xs tuple =
    ap₂ (λ (u v : ℤ). action t (u ∷ v ∷ u ∷ []) xs) a_is b_is ∙ (alike xs tuple ∙ sym (ap₂ (λ (u v : ℤ). action t (v ∷ u ∷ v ∷ []) xs) a_is b_is))

neighbours_alike : (t : Table) → IsQuandle t → (m : ℕ) (a b : ℤ) → IsLetter m a → IsLetter m b → Neighbours a b → ActAlike t m (a ∷ b ∷ a ∷ []) (b ∷ a ∷ b ∷ [])
neighbours_alike t q m a b at_a at_b (up j k next a_is b_is) =
    let least = ap unsigned_abs a_is in
    let most = ap unsigned_abs b_is in
    let l = at_a.least in
    let n = at_b.most in
    alike_at t m a b (pos j) (pos k) a_is b_is (λ xs tuple. triple_positive t q m j k xs tuple (omega arith) next (omega arith))
neighbours_alike t q m a b at_a at_b (down j k next b_is a_is) =
    let least = ap unsigned_abs b_is in
    let most = ap unsigned_abs a_is in
    let l = at_b.least in
    let n = at_a.most in
    alike_at t m a b (pos k) (pos j) a_is b_is (λ xs tuple. sym (triple_positive t q m j k xs tuple (omega arith) next (omega arith)))
neighbours_alike t q m a b at_a at_b (up_under j k next a_is b_is) =
    let most = ap unsigned_abs b_is in
    let n = at_b.most in
    alike_at t m a b (negsuc j) (negsuc k) a_is b_is (λ xs tuple. triple_negative t q m j k xs tuple next (omega arith))
neighbours_alike t q m a b at_a at_b (down_under j k next b_is a_is) =
    let most = ap unsigned_abs a_is in
    let n = at_a.most in
    alike_at t m a b (negsuc k) (negsuc j) a_is b_is (λ xs tuple. sym (triple_negative t q m j k xs tuple next (omega arith)))

pub triple_alike : (t : Table) → IsQuandle t → (m : ℕ) (a b c : ℤ) → IsLetter m a → IsLetter m b → are_triple a b c ≡ true
    → ActAlike t m (a ∷ b ∷ c ∷ []) (b ∷ a ∷ b ∷ [])
triple_alike t q m a b c at_a at_b triple xs tuple =
    let parts = and_parts (int_eq c a && cond (is_negative a) (is_negative b) (not (is_negative b)))
    ((unsigned_abs a + 1 == unsigned_abs b) || (unsigned_abs b + 1 == unsigned_abs a)) triple in
    let first = and_parts (int_eq c a) (cond (is_negative a) (is_negative b) (not (is_negative b))) parts.0 in
    let same : c ≡ a = (Decides-int_eq c a).0 first.0 in
    ap (λ (z : ℤ). action t (a ∷ b ∷ z ∷ []) xs) same
    ∙ neighbours_alike t q m a b at_a at_b (neighbours a b first.1 (near_cases a b parts.1)) xs tuple
