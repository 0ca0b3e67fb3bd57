-- The first fault of a step of a braid.
use Rattle.std.proofs.Common.{◌≡◌, ◌<◌, ◌≤◌, ◌+◌, ◌-◌, ◌*◌, ◌∙◌, ◌==◌, ◌&&◌, ◌||◌, ◌⊎◌, inl, inr, ℕ, zero, suc, ℤ, pos, negsuc, neg_ℤ, unsigned_abs, List, []}
use Rattle.std.proofs.Common.{◌∷◌, ◌++◌}
use Rattle.std.proofs.Common.{Bool, true, false, not, nat_lt, nat_le, cond, Option, Some, None, length, take, drop, get_or, length-append, arith, ap, ap₂, sym}
use Rattle.std.proofs.Common.{subst, refl}
use Rattle.std.specs.List.{list_all}
use Rattle.std.specs.Ordering.{int_eq}
use Rattle.std.proofs.lemmas.Bool.{and_cases, and_parts, and_from, or_left, or_right, or_cases, or_parts, not-true, not-false, not_from_false, ltb-true}
use Rattle.std.proofs.lemmas.Bool.{ltb-false, lt-ltb, leb-true, leb-false, le-leb, eqb-true, eq-eqb, ne_eqb, both_ways}
use Rattle.std.proofs.lemmas.Bool.Decides.{Decides-int_eq}
use Rattle.std.proofs.lemmas.List.{take-append-drop, take_all, take_more, take-append-le, get_or-append_right}
use Rattle.std.proofs.lemmas.List.Sums.{list_all-from_AllPass}
use Rattle.grid_core.specs.declared.grid.TheConstants.{MAX_SIZE}
use Rattle.braid_core.specs.Braid.{Word, IsLetter, IsBraid}
use Rattle.braid_core.specs.Fault.{is_outside_strands}
use Rattle.braid_core.specs.declared.braid.TheConstants.{MAX_STRANDS}
use Rattle.braid_core.proofs.Accepted.{letter_from, letter_not_outside}
use Rattle.braid_moves.specs.declared.step.BraidMove.{BraidMove}
use Rattle.braid_moves.specs.declared.step.BraidMove.TheVariants.{Far, Triple, Cancel, Insert, Turn, Grow, Shrink}
use Rattle.braid_moves.specs.declared.step.BraidMoveFault.{BraidMoveFault}
use Rattle.braid_moves.specs.declared.step.BraidMoveFault.TheVariants.{Range, Shape, Full, OutOfMemory}
use Rattle.braid_moves.specs.Step.{letter_at, letter_of_crossing, moved}
use Rattle.braid_moves.specs.Fault.{are_far, is_negative, are_triple, may_shrink, first_step_fault}
use Rattle.braid_moves.proofs.Same.{at, letter_is}
use Rattle.braid_moves.proofs.Steps.{crossing_is, step_braid}
use Rattle.text_laws.specs.First.{IsFirst}
use Rattle.text_laws.specs.StepFaults.{ShareAPlace, IsTriple, HasGrown, LacksLetters, HasOtherShape, LacksRoom, IsStepFault, step_rank, step_number}
use Rattle.text_laws.proofs.Firsts.{lowest_comes_first, one_comes_first}
use Rattle.text_laws.proofs.Chains.{refused, passed}
use Rattle.text_laws.proofs.Moves.{shift_inside, shift_outside, below}

-- the rank tells a fault
abbrev fault_at : ℕ → BraidMoveFault
fault_at zero = Range
fault_at (suc zero) = Shape
fault_at (suc (suc zero)) = Full
fault_at (suc (suc (suc rank))) = OutOfMemory

told : (f : BraidMoveFault) → fault_at (step_rank f) ≡ f
told Range = refl
told Shape = refl
told Full = refl
told OutOfMemory = refl

pub same_step_fault : (f g : BraidMoveFault) → step_rank f ≡ step_rank g → step_number f ≡ step_number g → f ≡ g
same_step_fault f g rank number = sym (told f) ∙ (ap fault_at rank ∙ told g)

-- crossings with a place in common are not far
shares_place : (a b : ℤ) → are_far a b ≡ false → ShareAPlace a b
shares_place a b e =
    let parts = or_parts (nat_le (unsigned_abs a + 2) (unsigned_abs b)) (nat_le (unsigned_abs b + 2) (unsigned_abs a)) e in
    let one = leb-false (unsigned_abs a + 2) (unsigned_abs b) parts.0 in
    let other = leb-false (unsigned_abs b + 2) (unsigned_abs a) parts.1 in
    (omega (arith, other), omega (arith, one))

no_place_where_far : (a b : ℤ) → are_far a b ≡ true → ShareAPlace a b → ⊥
no_place_where_far a b e is = elim (or_cases (nat_le (unsigned_abs a + 2) (unsigned_abs b)) (nat_le (unsigned_abs b + 2) (unsigned_abs a)) e) [
  | inl far ↦ let le = leb-true (unsigned_abs a + 2) (unsigned_abs b) far in absurd (omega (arith, le, is.1))
  | inr far ↦ let le = leb-true (unsigned_abs b + 2) (unsigned_abs a) far in absurd (omega (arith, le, is.0))
]

-- triples, told by their tests
abbrev one_sign : ℤ → ℤ → Bool
one_sign a b = cond (is_negative a) (is_negative b) (not (is_negative b))

abbrev are_beside : ℕ → ℕ → Bool
are_beside j k = (j + 1 == k) || (k + 1 == j)

beside_from : (j k : ℕ) → are_beside j k ≡ true → (j + 1 ≡ k) ⊎ (k + 1 ≡ j)
beside_from j k e = elim (or_cases (j + 1 == k) (k + 1 == j) e) [
  | inl up ↦ inl (eqb-true (j + 1) k up)
  | inr down ↦ inr (eqb-true (k + 1) j down)
]

beside_to : (j k : ℕ) → (j + 1 ≡ k) ⊎ (k + 1 ≡ j) → are_beside j k ≡ true
beside_to j k (inl up) = or_left (j + 1 == k) (k + 1 == j) (eq-eqb (j + 1) k up)
beside_to j k (inr down) = or_right (j + 1 == k) (k + 1 == j) (eq-eqb (k + 1) j down)

triple_from : (a b c : ℤ) → are_triple a b c ≡ true → IsTriple a b c
triple_from a b c e = by a b ((Decides-int_eq c a).0 both.0) both.1 rest.1
  where
    rest : (int_eq c a && one_sign a b ≡ true) × (are_beside (unsigned_abs a) (unsigned_abs b) ≡ true)
    rest = and_parts (int_eq c a && one_sign a b) (are_beside (unsigned_abs a) (unsigned_abs b)) e

    both : (int_eq c a ≡ true) × (one_sign a b ≡ true)
    both = and_parts (int_eq c a) (one_sign a b) rest.0

    by : (a b : ℤ) → c ≡ a → one_sign a b ≡ true → are_beside (unsigned_abs a) (unsigned_abs b) ≡ true → IsTriple a b c
    by (pos j) (pos k) again sign near =
        record { again = again; first = j; second = k; positive = true; here = refl; between = refl; beside = beside_from j k near }
    by (pos j) (negsuc k) again sign near = absurd (let never : ◌≡◌ {A = Bool} false true = sign in cc)
    by (negsuc j) (pos k) again sign near = absurd (let never : ◌≡◌ {A = Bool} false true = sign in cc)
    by (negsuc j) (negsuc k) again sign near =
        record { again = again; first = suc j; second = suc k; positive = false; here = refl; between = refl; beside = beside_from (suc j) (suc k) near }

triple_to : (a b c : ℤ) → 1 ≤ unsigned_abs a → 1 ≤ unsigned_abs b → IsTriple a b c → are_triple a b c ≡ true
triple_to a b c some_a some_b is =
    let letters = by is.first is.second is.positive (subst (λ (z : ℤ). 1 ≤ unsigned_abs z) is.here some_a)
    (subst (λ (z : ℤ). 1 ≤ unsigned_abs z) is.between some_b) is.beside in
    let tests : (one_sign a b ≡ true) × (are_beside (unsigned_abs a) (unsigned_abs b) ≡ true) =
    subst (λ (z : ℤ). (one_sign z b ≡ true) × (are_beside (unsigned_abs z) (unsigned_abs b) ≡ true)) (sym is.here)
    (subst
    (λ (z : ℤ). (one_sign (letter_of_crossing is.first is.positive) z ≡ true)
    × (are_beside (unsigned_abs (letter_of_crossing is.first is.positive)) (unsigned_abs z) ≡ true))
    (sym is.between) letters) in
    and_from (int_eq c a && one_sign a b) (are_beside (unsigned_abs a) (unsigned_abs b))
    (and_from (int_eq c a) (one_sign a b) ((Decides-int_eq c a).1 is.again) tests.0) tests.1
  where
    by : (j k : ℕ) (positive : Bool) → 1 ≤ unsigned_abs (letter_of_crossing j positive) → 1 ≤ unsigned_abs (letter_of_crossing k positive)
        → (j + 1 ≡ k) ⊎ (k + 1 ≡ j)
        → (one_sign (letter_of_crossing j positive) (letter_of_crossing k positive) ≡ true)
        × (are_beside (unsigned_abs (letter_of_crossing j positive)) (unsigned_abs (letter_of_crossing k positive)) ≡ true)
    by j k true some_j some_k near = (refl, beside_to j k near)
    by zero k false some_j some_k near = absurd (omega (arith, some_j))
    by (suc j) zero false some_j some_k near = absurd (omega (arith, some_k))
    by (suc j) (suc k) false some_j some_k near = (refl, beside_to (suc j) (suc k) near)

-- a place at which a letter may be put in
insert_inside : (m n place : ℕ) (a : ℤ) → (nat_le place n && not (is_outside_strands m a)) ≡ true → (n < place) ⊎ (IsLetter m a → ⊥) → ⊥
insert_inside m n place a e (inl high) =
    let le = leb-true place n (and_parts (nat_le place n) (not (is_outside_strands m a)) e).0 in absurd (omega (arith, le, high))
insert_inside m n place a e (inr bad) =
    bad (letter_from m a (not-true (is_outside_strands m a) (and_parts (nat_le place n) (not (is_outside_strands m a)) e).1))

insert_outside : (m n place : ℕ) (a : ℤ) → (nat_le place n && not (is_outside_strands m a)) ≡ false → (n < place) ⊎ (IsLetter m a → ⊥)
insert_outside m n place a e = elim (and_cases (nat_le place n) (not (is_outside_strands m a)) e) [
  | inl high ↦ inl (leb-false place n high)
  | inr bad ↦ inr (λ letter. both_ways (is_outside_strands m a) (letter_not_outside m a letter) (not-false (is_outside_strands m a) bad))
]

-- a word that has grown shrinks
shrinks : (v : Word) (positive : Bool) → IsBraid v → may_shrink (moved v (Grow positive)) ≡ true
shrinks v positive braid =
    let m = v.strands in
    let ls = v.letters in
    let a = letter_of_crossing m positive in
    let longer = ls ++ a ∷ [] in
    let size : length longer ≡ length ls + 1 = length-append ls (a ∷ []) in
    let least = braid.least in
    let last : get_or longer (length longer - 1) (pos 0) ≡ a =
    ap (λ (k : ℕ). get_or longer k (pos 0)) (let e : length longer - 1 ≡ length ls = omega (arith, size) in e)
    ∙ (get_or-append_right ls (a ∷ []) (length ls) (length ls) (pos 0) refl (omega arith)
    ∙ ap (λ (k : ℕ). get_or (a ∷ []) k (pos 0)) (let e : length ls - length ls ≡ 0 = omega arith in e)) in
    let front : take (length longer - 1) longer ≡ ls =
    ap (λ (k : ℕ). take k longer) (let e : length longer - 1 ≡ length ls = omega (arith, size) in e)
    ∙ (take-append-le (length ls) ls (a ∷ []) (omega arith) ∙ take_all (length ls) ls (omega arith)) in
    and_from
    (nat_le 2 (m + 1) && nat_lt 0 (length longer) && (unsigned_abs (get_or longer (length longer - 1) (pos 0)) == m + 1 - 1))
    (list_all (λ b. not (unsigned_abs b == m + 1 - 1)) (take (length longer - 1) longer))
    (and_from (nat_le 2 (m + 1) && nat_lt 0 (length longer)) (unsigned_abs (get_or longer (length longer - 1) (pos 0)) == m + 1 - 1)
    (and_from (nat_le 2 (m + 1)) (nat_lt 0 (length longer)) (le-leb 2 (m + 1) (omega (arith, least))) (lt-ltb 0 (length longer) (omega (arith, size))))
    (eq-eqb (unsigned_abs (get_or longer (length longer - 1) (pos 0))) (m + 1 - 1)
    (ap unsigned_abs last ∙ (size_of m positive ∙ (let e : m ≡ m + 1 - 1 = omega arith in e)))))
    (subst (λ (xs : List ℤ). list_all (λ b. not (unsigned_abs b == m + 1 - 1)) xs ≡ true) (sym front)
    (list_all-from_AllPass (λ b. not (unsigned_abs b == m + 1 - 1)) ls (λ k d lt.
    let letter = braid.crossings k d lt in
    let under = letter.most in
    not_from_false (unsigned_abs (get_or ls k d) == m + 1 - 1) (ne_eqb (unsigned_abs (get_or ls k d)) (m + 1 - 1) (λ e. absurd (omega (arith, e, under)))))))
  where
    size_of : (m : ℕ) (positive : Bool) → unsigned_abs (letter_of_crossing m positive) ≡ m
    size_of m true = refl
    size_of zero false = refl
    size_of (suc m) false = refl

-- and a braid that may shrink has grown
abbrev word : ℕ → List ℤ → Word
word m letters = record { strands = m; letters = letters }

grew : (w : Word) → IsBraid w → may_shrink w ≡ true → first_step_fault w Shrink ≡ None → HasGrown w
grew w braid alone none =
    let m = w.strands in
    let l = length w.letters in
    let front = take (l - 1) w.letters in
    let rest =
    and_parts (nat_le 2 m && nat_lt 0 l && (unsigned_abs (letter_at w (l - 1)) == m - 1)) (list_all (λ a. not (unsigned_abs a == m - 1)) front) alone in
    let most = and_parts (nat_le 2 m && nat_lt 0 l) (unsigned_abs (letter_at w (l - 1)) == m - 1) rest.0 in
    let first = and_parts (nat_le 2 m) (nat_lt 0 l) most.0 in
    let two = leb-true 2 m first.0 in
    let some = ltb-true 0 l first.1 in
    let which = crossing_is (m - 1) (letter_at w (l - 1)) (eqb-true (unsigned_abs (letter_at w (l - 1))) (m - 1) most.1) (omega (arith, two)) in
    let letters : w.letters ≡ front ++ letter_of_crossing (m - 1) which.0 ∷ [] =
    sym (take_all l w.letters (omega arith)) ∙ (ap (λ (k : ℕ). take k w.letters) (let e : l ≡ l - 1 + 1 = omega (arith, some) in e)
    ∙ (take_more w.letters (l - 1) (pos 0) (omega (arith, some)) ∙ ap (λ (a : ℤ). front ++ a ∷ []) which.1)) in
    record {
      before = moved w Shrink;
      positive = which.0;
      braid = step_braid w braid Shrink none;
      grown = ap₂ word (let e : m - 1 + 1 ≡ m = omega (arith, two) in e) (sym letters);
    }

-- faults by their variants
each : (Is : BraidMoveFault → Type 0) (P : BraidMoveFault → Type 0) → (Is Range → P Range) → (Is Shape → P Shape) → (Is Full → P Full)
    → (Is OutOfMemory → P OutOfMemory) → (fault : BraidMoveFault) → Is fault → P fault
each Is P range shape full memory Range is = range is
each Is P range shape full memory Shape is = shape is
each Is P range shape full memory Full is = full is
each Is P range shape full memory OutOfMemory is = memory is

no_fault : (fault : BraidMoveFault) → (◌≡◌ {A = Option BraidMoveFault} None (Some fault)) → ⊥
no_fault fault e = cc

module _ (w : Word) (step : BraidMove) where
  abbrev First : BraidMoveFault → Type 0
  First = IsFirst (IsStepFault w step) step_rank step_number

  range_first : LacksLetters w step → First Range
  range_first fails = lowest_comes_first (IsStepFault w step) step_rank step_number Range fails refl refl

  shape_first : (LacksLetters w step → ⊥) → HasOtherShape w step → (LacksRoom w step → ⊥) → First Shape
  shape_first inside shape room =
      one_comes_first (IsStepFault w step) step_rank step_number Shape shape
      (each (IsStepFault w step) (λ other. other ≡ Shape) (λ is. absurd (inside is)) (λ is. refl) (λ is. absurd (room is)) (λ is. absurd is))

  full_first : (LacksLetters w step → ⊥) → (HasOtherShape w step → ⊥) → LacksRoom w step → First Full
  full_first inside shape room =
      one_comes_first (IsStepFault w step) step_rank step_number Full room
      (each (IsStepFault w step) (λ other. other ≡ Full) (λ is. absurd (inside is)) (λ is. absurd (shape is)) (λ is. refl) (λ is. absurd is))

module _ (w : Word) (braid : IsBraid w) where
  abbrev Comes : BraidMove → BraidMoveFault → Type 0
  Comes step fault = IsFirst (IsStepFault w step) step_rank step_number fault

  -- the letters at and behind a place
  letter_here : (p : ℕ) → p < length w.letters → 1 ≤ unsigned_abs (letter_at w p)
  letter_here p lt = (letter_is w.strands w.letters p braid.crossings lt).least

  far_first : (p : ℕ) (fault : BraidMoveFault) → first_step_fault w (Far p) ≡ Some fault → Comes (Far p) fault
  far_first p fault found = elim (refused (nat_lt (p + 1) (length w.letters)) Range fault _ found) [
    | inl inside ↦ elim (refused (are_far (letter_at w p) (letter_at w (p + 1))) Shape fault None inside.1) [
      | inl none ↦ absurd (no_fault fault none.1)
      | inr at ↦ subst (Comes (Far p)) at.1 (shape_first w (Far p) (below (p + 1) (length w.letters) inside.0)
          (shares_place (letter_at w p) (letter_at w (p + 1)) at.0) (λ is. is))
    ]
    | inr at ↦ subst (Comes (Far p)) at.1 (range_first w (Far p) (ltb-false (p + 1) (length w.letters) at.0))
  ]

  triple_first : (p : ℕ) (fault : BraidMoveFault) → first_step_fault w (Triple p) ≡ Some fault → Comes (Triple p) fault
  triple_first p fault found = elim (refused (nat_lt (p + 2) (length w.letters)) Range fault _ found) [
    | inl inside ↦ elim (refused (are_triple (letter_at w p) (letter_at w (p + 1)) (letter_at w (p + 2))) Shape fault None inside.1) [
      | inl none ↦ absurd (no_fault fault none.1)
      | inr at ↦ subst (Comes (Triple p)) at.1 (shape_first w (Triple p) (below (p + 2) (length w.letters) inside.0) (no_triple inside.0 at.0) (λ is. is))
    ]
    | inr at ↦ subst (Comes (Triple p)) at.1 (range_first w (Triple p) (ltb-false (p + 2) (length w.letters) at.0))
  ]
    where
      no_triple : nat_lt (p + 2) (length w.letters) ≡ true → are_triple (letter_at w p) (letter_at w (p + 1)) (letter_at w (p + 2)) ≡ false
          → IsTriple (letter_at w p) (letter_at w (p + 1)) (letter_at w (p + 2)) → ⊥
      no_triple inside e is =
          let lt = ltb-true (p + 2) (length w.letters) inside in
          both_ways (are_triple (letter_at w p) (letter_at w (p + 1)) (letter_at w (p + 2))) e
          (triple_to (letter_at w p) (letter_at w (p + 1)) (letter_at w (p + 2)) (letter_here p (omega (arith, lt)))
          (letter_here (p + 1) (omega (arith, lt))) is)

  cancel_first : (p : ℕ) (fault : BraidMoveFault) → first_step_fault w (Cancel p) ≡ Some fault → Comes (Cancel p) fault
  cancel_first p fault found = elim (refused (nat_lt (p + 1) (length w.letters)) Range fault _ found) [
    | inl inside ↦ elim (refused (int_eq (letter_at w (p + 1)) (neg_ℤ (letter_at w p))) Shape fault None inside.1) [
      | inl none ↦ absurd (no_fault fault none.1)
      | inr at ↦ subst (Comes (Cancel p)) at.1 (shape_first w (Cancel p) (below (p + 1) (length w.letters) inside.0)
          (λ e. both_ways (int_eq (letter_at w (p + 1)) (neg_ℤ (letter_at w p))) at.0
          ((Decides-int_eq (letter_at w (p + 1)) (neg_ℤ (letter_at w p))).1 e)) (λ is. is))
    ]
    | inr at ↦ subst (Comes (Cancel p)) at.1 (range_first w (Cancel p) (ltb-false (p + 1) (length w.letters) at.0))
  ]

  insert_first : (place : ℕ) (a : ℤ) (fault : BraidMoveFault) → first_step_fault w (Insert place a) ≡ Some fault → Comes (Insert place a) fault
  insert_first place a fault found = elim (refused (nat_le place (length w.letters) && not (is_outside_strands w.strands a)) Range fault _ found) [
    | inl inside ↦ elim (refused (nat_le (length w.letters + 2 + 2 * w.strands) MAX_SIZE) Full fault None inside.1) [
      | inl none ↦ absurd (no_fault fault none.1)
      | inr at ↦ subst (Comes (Insert place a)) at.1
          (full_first w (Insert place a) (insert_inside w.strands (length w.letters) place a inside.0) (λ is. is) (no_room at.0))
    ]
    | inr at ↦ subst (Comes (Insert place a)) at.1 (range_first w (Insert place a) (insert_outside w.strands (length w.letters) place a at.0))
  ]
    where
      no_room : nat_le (length w.letters + 2 + 2 * w.strands) MAX_SIZE ≡ false → IsBraid (moved w (Insert place a)) → ⊥
      no_room e after =
          let more = leb-false (length w.letters + 2 + 2 * w.strands) MAX_SIZE e in
          let room = after.room in
          let now = length-append (take place w.letters) (a ∷ neg_ℤ a ∷ drop place w.letters) in
          let was = ap length (take-append-drop place w.letters) in
          let parts = length-append (take place w.letters) (drop place w.letters) in
          absurd (omega (arith, more, room, now, was, parts))

  turn_first : (k : ℕ) (fault : BraidMoveFault) → first_step_fault w (Turn k) ≡ Some fault → Comes (Turn k) fault
  turn_first k fault found = elim (refused (nat_lt 0 k && nat_lt k (length w.letters)) Range fault None found) [
    | inl none ↦ absurd (no_fault fault none.1)
    | inr at ↦ subst (Comes (Turn k)) at.1 (range_first w (Turn k) (shift_outside (length w.letters) k at.0))
  ]

  grow_first : (positive : Bool) (fault : BraidMoveFault) → first_step_fault w (Grow positive) ≡ Some fault → Comes (Grow positive) fault
  grow_first positive fault found =
      elim (refused (nat_lt w.strands MAX_STRANDS && nat_le (length w.letters + 3 + 2 * w.strands) MAX_SIZE) Full fault None found) [
        | inl none ↦ absurd (no_fault fault none.1)
        | inr at ↦ subst (Comes (Grow positive)) at.1 (full_first w (Grow positive) (λ is. is) (λ is. is) (no_room at.0))
      ]
    where
      no_room : (nat_lt w.strands MAX_STRANDS && nat_le (length w.letters + 3 + 2 * w.strands) MAX_SIZE) ≡ false
          → IsBraid (moved w (Grow positive)) → ⊥
      no_room e after = elim (and_cases (nat_lt w.strands MAX_STRANDS) (nat_le (length w.letters + 3 + 2 * w.strands) MAX_SIZE) e) [
        | inl many ↦ let le = ltb-false w.strands MAX_STRANDS many in let most = after.most in absurd (omega (arith, le, most))
        | inr long ↦ let more = leb-false (length w.letters + 3 + 2 * w.strands) MAX_SIZE long in
            let room = after.room in
            let now = length-append w.letters (letter_of_crossing w.strands positive ∷ []) in
            absurd (omega (arith, more, room, now))
      ]

  shrink_first : (fault : BraidMoveFault) → first_step_fault w Shrink ≡ Some fault → Comes Shrink fault
  shrink_first fault found = elim (refused (may_shrink w) Shape fault None found) [
    | inl none ↦ absurd (no_fault fault none.1)
    | inr at ↦ subst (Comes Shrink) at.1 (shape_first w Shrink (λ is. is)
        (λ grown. both_ways (may_shrink w) at.0
        (subst (λ (v : Word). may_shrink v ≡ true) grown.grown (shrinks grown.before grown.positive grown.braid))) (λ is. is))
  ]

  pub step_first : (step : BraidMove) (fault : BraidMoveFault) → first_step_fault w step ≡ Some fault → Comes step fault
  step_first (Far p) fault found = far_first p fault found
  step_first (Triple p) fault found = triple_first p fault found
  step_first (Cancel p) fault found = cancel_first p fault found
  step_first (Insert place a) fault found = insert_first place a fault found
  step_first (Turn k) fault found = turn_first k fault found
  step_first (Grow positive) fault found = grow_first positive fault found
  step_first Shrink fault found = shrink_first fault found

  abbrev Has : BraidMove → BraidMoveFault → Type 0
  Has step fault = IsStepFault w step fault

  abbrev Never : BraidMoveFault → Type 0
  Never fault = ⊥

  pub step_holds : (step : BraidMove) → first_step_fault w step ≡ None → (fault : BraidMoveFault) → IsStepFault w step fault → ⊥
  step_holds (Far p) none =
      let inside = passed (nat_lt (p + 1) (length w.letters)) Range _ none in
      let far = passed (are_far (letter_at w p) (letter_at w (p + 1))) Shape None inside.1 in
      each (Has (Far p)) Never (below (p + 1) (length w.letters) inside.0) (no_place_where_far (letter_at w p) (letter_at w (p + 1)) far.0)
      (λ is. is) (λ is. is)
  step_holds (Triple p) none =
      let inside = passed (nat_lt (p + 2) (length w.letters)) Range _ none in
      let three = passed (are_triple (letter_at w p) (letter_at w (p + 1)) (letter_at w (p + 2))) Shape None inside.1 in
      each (Has (Triple p)) Never (below (p + 2) (length w.letters) inside.0)
      (λ other. other (triple_from (letter_at w p) (letter_at w (p + 1)) (letter_at w (p + 2)) three.0)) (λ is. is) (λ is. is)
  step_holds (Cancel p) none =
      let inside = passed (nat_lt (p + 1) (length w.letters)) Range _ none in
      let two = passed (int_eq (letter_at w (p + 1)) (neg_ℤ (letter_at w p))) Shape None inside.1 in
      each (Has (Cancel p)) Never (below (p + 1) (length w.letters) inside.0)
      (λ other. other ((Decides-int_eq (letter_at w (p + 1)) (neg_ℤ (letter_at w p))).0 two.0)) (λ is. is) (λ is. is)
  step_holds (Insert place a) none =
      let inside = passed (nat_le place (length w.letters) && not (is_outside_strands w.strands a)) Range _ none in
      each (Has (Insert place a)) Never (insert_inside w.strands (length w.letters) place a inside.0) (λ is. is)
      (λ full. full (step_braid w braid (Insert place a) none)) (λ is. is)
  step_holds (Turn k) none =
      let inside = passed (nat_lt 0 k && nat_lt k (length w.letters)) Range None none in
      each (Has (Turn k)) Never (shift_inside (length w.letters) k inside.0) (λ is. is) (λ is. is) (λ is. is)
  step_holds (Grow positive) none =
      each (Has (Grow positive)) Never (λ is. is) (λ is. is) (λ full. full (step_braid w braid (Grow positive) none)) (λ is. is)
  step_holds Shrink none =
      let may = passed (may_shrink w) Shape None none in
      each (Has Shrink) Never (λ is. is) (λ other. other (grew w braid may.0 none)) (λ is. is) (λ is. is)
