-- Each legal step leads to a braid, and carries the fixed points one to one.
use Rattle.std.proofs.Common.{◌≡◌, ◌≢◌, ◌≤◌, ◌+◌, ◌-◌, ◌*◌, ◌∷◌, ◌++◌, ◌∙◌, [], ℕ, zero, suc, ℤ, pos, negsuc, neg_ℤ, unsigned_abs, List}
use Rattle.std.proofs.Common.{Bool, true, false, not, Option, Some, None, All, length, take, drop, arith, sym, refl, ap, ap₂, subst}
use Rattle.std.proofs.Common.{length-append, get_or}
use Rattle.std.specs.Prelude.{nat_lt, nat_le, ◌==◌, ◌&&◌}
use Rattle.std.specs.List.{list_all}
use Rattle.std.specs.Ordering.{int_eq}
use Rattle.std.proofs.lemmas.Bool.{leb-true, ltb-true, eqb-true, eqb-false, and_parts, not-true}
use Rattle.std.proofs.lemmas.Bool.Decides.{Decides-int_eq}
use Rattle.std.proofs.lemmas.List.{take-append-drop, length-take-le, take_all, take_more}
use Rattle.std.proofs.lemmas.List.Elements.{All-take, All-drop, All-append, All-nil, All-cons}
use Rattle.std.proofs.lemmas.List.Sums.{AllPass-from_list_all}
use Rattle.grid_core.specs.declared.grid.TheConstants.{MAX_SIZE}
use Rattle.quandle_core.specs.Quandle.{Table, IsQuandle}
use Rattle.quandle_core.specs.Bijection.{IsBijection}
use Rattle.braid_core.specs.Braid.{Word, IsLetter, IsBraid}
use Rattle.braid_core.specs.Fault.{is_outside_strands}
use Rattle.braid_core.specs.FixedPoints.{IsFixedPoint}
use Rattle.braid_core.specs.declared.braid.TheConstants.{MAX_STRANDS}
use Rattle.braid_laws.proofs.Letters.{letter_negated}
use Rattle.braid_core.proofs.Accepted.{letter_from}
use Rattle.braid_moves.specs.declared.step.BraidMove.{BraidMove}
use Rattle.braid_moves.specs.declared.step.BraidMove.TheVariants.{Far, Triple, Cancel, Insert, Turn, Grow, Shrink}
use Rattle.braid_moves.specs.declared.step.BraidMoveFault.{BraidMoveFault}
use Rattle.braid_moves.specs.declared.step.BraidMoveFault.TheVariants.{Range, Shape, Full}
use Rattle.braid_moves.specs.Step.{letter_at, letter_of_crossing, with_letters, moved}
use Rattle.braid_moves.specs.Fault.{are_far, are_triple, may_shrink, fault_unless, first_step_fault}
use Rattle.braid_moves.specs.Carried.{carried_tuple}
use Rattle.braid_moves.proofs.Same.{ActAlike, at, two_at, three_at, letter_is, alike_within, alike_fixed, far_alike, cancel_alike, triple_alike}
use Rattle.braid_moves.proofs.Turned.{turned_fixed, grown_fixed, dropped_fixed}

-- a test that must hold where there is no fault
pub none_unless : (b : Bool) (fault : BraidMoveFault) (next : Option BraidMoveFault) → fault_unless b fault next ≡ None → (b ≡ true) × (next ≡ None)
none_unless true fault next e = (refl, e)
none_unless false fault next e = absurd (let never : ◌≡◌ {A = Option BraidMoveFault} (Some fault) None = e in cc)

not_outside : (m : ℕ) (a : ℤ) → not (is_outside_strands m a) ≡ true → IsLetter m a
not_outside m a e = letter_from m a (not-true (is_outside_strands m a) e)

-- what is known of a word without its last letter
record LastLetter (w : Word) : Type 0 where
  strands : 2 ≤ w.strands
  positive : Bool
  letters : w.letters ≡ take (length w.letters - 1) w.letters ++ letter_of_crossing (w.strands - 1) positive ∷ []
  fewer : All (IsLetter (w.strands - 1)) (take (length w.letters - 1) w.letters)

pub crossing_is : (k : ℕ) (a : ℤ) → unsigned_abs a ≡ k → 1 ≤ k → (s : Bool) × (a ≡ letter_of_crossing k s)
crossing_is k (pos j) e least = (true, ap pos e)
crossing_is zero (negsuc j) e least = absurd (omega arith)
crossing_is (suc k) (negsuc j) e least = (false, ap negsuc (omega arith))

last_letter : (w : Word) → IsBraid w → may_shrink w ≡ true → LastLetter w
last_letter w braid alone =
    let m = w.strands in
    let l = length w.letters in
    let front = take (l - 1) w.letters in
    let rest =
    and_parts (nat_le 2 m && nat_lt 0 l && (unsigned_abs (letter_at w (l - 1)) == m - 1)) (list_all (λ a. not (unsigned_abs a == m - 1)) front) alone in
    let most = and_parts (nat_le 2 m && nat_lt 0 l) (unsigned_abs (letter_at w (l - 1)) == m - 1) rest.0 in
    let first = and_parts (nat_le 2 m) (nat_lt 0 l) most.0 in
    let two = leb-true 2 m first.0 in
    let some = ltb-true 0 l first.1 in
    let which = crossing_is (m - 1) (letter_at w (l - 1)) (eqb-true (unsigned_abs (letter_at w (l - 1))) (m - 1) most.1) (omega arith) in
    let passes = AllPass-from_list_all (λ a. not (unsigned_abs a == m - 1)) front rest.1 in
    record {
      strands = two;
      positive = which.0;
      letters = sym (take_all l w.letters (omega arith)) ∙ (ap (λ (k : ℕ). take k w.letters) (let e : l ≡ l - 1 + 1 = omega arith in e)
          ∙ (take_more w.letters (l - 1) (pos 0) (omega arith) ∙ ap (λ (a : ℤ). front ++ a ∷ []) which.1));
      fewer = λ k d lt.
          let letter = All-take (IsLetter m) (l - 1) w.letters braid.crossings k d lt in
          let other = apart (unsigned_abs (get_or front k d)) (m - 1) (passes k d lt) in
          let below = letter.most in
          record { least = letter.least; most = omega arith };
    }
  where
    apart : (i j : ℕ) → not (i == j) ≡ true → i ≢ j
    apart i j e = eqb-false i j (not-true (i == j) e)

-- a braid with other letters, and room for them
with_braid : (w : Word) → IsBraid w → (letters : List ℤ) → All (IsLetter w.strands) letters → length letters + 2 * w.strands ≤ MAX_SIZE
    → IsBraid (with_letters w letters)
with_braid w braid letters all room = record { least = braid.least; most = braid.most; crossings = all; room = room }

shorter : (w : Word) → IsBraid w → (n : ℕ) → n ≤ length w.letters → n + 2 * w.strands ≤ MAX_SIZE
shorter w braid n le = let room = braid.room in omega arith

-- the step of each kind
pub step_braid : (w : Word) → IsBraid w → (step : BraidMove) → first_step_fault w step ≡ None → IsBraid (moved w step)
step_braid w braid (Far p) e =
    let m = w.strands in
    let ls = w.letters in
    let range = none_unless (nat_lt (p + 1) (length ls)) Range _ e in
    let lt = ltb-true (p + 1) (length ls) range.0 in
    let size = ap length (two_at ls p lt) ∙ length-append (take p ls) (at ls p ∷ at ls (p + 1) ∷ drop (p + 2) ls) in
    let now = length-append (take p ls) (at ls (p + 1) ∷ at ls p ∷ drop (p + 2) ls) in
    with_braid w braid (take p ls ++ at ls (p + 1) ∷ at ls p ∷ drop (p + 2) ls)
    (All-append (IsLetter m) (take p ls) (at ls (p + 1) ∷ at ls p ∷ drop (p + 2) ls) (All-take (IsLetter m) p ls braid.crossings)
    (All-cons (IsLetter m) (at ls (p + 1)) (at ls p ∷ drop (p + 2) ls) (letter_is m ls (p + 1) braid.crossings lt)
    (All-cons (IsLetter m) (at ls p) (drop (p + 2) ls) (letter_is m ls p braid.crossings (omega arith)) (All-drop (IsLetter m) (p + 2) ls braid.crossings))))
    (shorter w braid (length (take p ls ++ at ls (p + 1) ∷ at ls p ∷ drop (p + 2) ls)) (omega arith))
step_braid w braid (Triple p) e =
    let m = w.strands in
    let ls = w.letters in
    let range = none_unless (nat_lt (p + 2) (length ls)) Range _ e in
    let lt = ltb-true (p + 2) (length ls) range.0 in
    let size = ap length (three_at ls p lt) ∙ length-append (take p ls) (at ls p ∷ at ls (p + 1) ∷ at ls (p + 2) ∷ drop (p + 3) ls) in
    let now = length-append (take p ls) (at ls (p + 1) ∷ at ls p ∷ at ls (p + 1) ∷ drop (p + 3) ls) in
    let second = letter_is m ls (p + 1) braid.crossings (omega arith) in
    with_braid w braid (take p ls ++ at ls (p + 1) ∷ at ls p ∷ at ls (p + 1) ∷ drop (p + 3) ls)
    (All-append (IsLetter m) (take p ls) (at ls (p + 1) ∷ at ls p ∷ at ls (p + 1) ∷ drop (p + 3) ls) (All-take (IsLetter m) p ls braid.crossings)
    (All-cons (IsLetter m) (at ls (p + 1)) (at ls p ∷ at ls (p + 1) ∷ drop (p + 3) ls) second
    (All-cons (IsLetter m) (at ls p) (at ls (p + 1) ∷ drop (p + 3) ls) (letter_is m ls p braid.crossings (omega arith))
    (All-cons (IsLetter m) (at ls (p + 1)) (drop (p + 3) ls) second (All-drop (IsLetter m) (p + 3) ls braid.crossings)))))
    (shorter w braid (length (take p ls ++ at ls (p + 1) ∷ at ls p ∷ at ls (p + 1) ∷ drop (p + 3) ls)) (omega arith))
step_braid w braid (Cancel p) e =
    let m = w.strands in
    let ls = w.letters in
    let range = none_unless (nat_lt (p + 1) (length ls)) Range _ e in
    let lt = ltb-true (p + 1) (length ls) range.0 in
    let size = ap length (two_at ls p lt) ∙ length-append (take p ls) (at ls p ∷ at ls (p + 1) ∷ drop (p + 2) ls) in
    let now = length-append (take p ls) (drop (p + 2) ls) in
    with_braid w braid (take p ls ++ drop (p + 2) ls)
    (All-append (IsLetter m) (take p ls) (drop (p + 2) ls) (All-take (IsLetter m) p ls braid.crossings) (All-drop (IsLetter m) (p + 2) ls braid.crossings))
    (shorter w braid (length (take p ls ++ drop (p + 2) ls)) (omega arith))
step_braid w braid (Insert place a) e =
    let m = w.strands in
    let ls = w.letters in
    let range = none_unless (nat_le place (length ls) && not (is_outside_strands m a)) Range _ e in
    let parts = and_parts (nat_le place (length ls)) (not (is_outside_strands m a)) range.0 in
    let letter = not_outside m a parts.1 in
    let full = none_unless (nat_le (length ls + 2 + 2 * m) MAX_SIZE) Full None range.1 in
    let room = leb-true (length ls + 2 + 2 * m) MAX_SIZE full.0 in
    let size = ap length (take-append-drop place ls) in
    let parts_size = length-append (take place ls) (drop place ls) in
    let now = length-append (take place ls) (a ∷ neg_ℤ a ∷ drop place ls) in
    with_braid w braid (take place ls ++ a ∷ neg_ℤ a ∷ drop place ls)
    (All-append (IsLetter m) (take place ls) (a ∷ neg_ℤ a ∷ drop place ls) (All-take (IsLetter m) place ls braid.crossings)
    (All-cons (IsLetter m) a (neg_ℤ a ∷ drop place ls) letter
    (All-cons (IsLetter m) (neg_ℤ a) (drop place ls) (letter_negated m a letter) (All-drop (IsLetter m) place ls braid.crossings))))
    (omega arith)
step_braid w braid (Turn k) e =
    let m = w.strands in
    let ls = w.letters in
    let size = ap length (take-append-drop k ls) in
    let parts_size = length-append (take k ls) (drop k ls) in
    let now = length-append (drop k ls) (take k ls) in
    with_braid w braid (drop k ls ++ take k ls)
    (All-append (IsLetter m) (drop k ls) (take k ls) (All-drop (IsLetter m) k ls braid.crossings) (All-take (IsLetter m) k ls braid.crossings))
    (shorter w braid (length (drop k ls ++ take k ls)) (omega arith))
step_braid w braid (Grow positive) e =
    let m = w.strands in
    let ls = w.letters in
    let full = none_unless (nat_lt m MAX_STRANDS && nat_le (length ls + 3 + 2 * m) MAX_SIZE) Full None e in
    let parts = and_parts (nat_lt m MAX_STRANDS) (nat_le (length ls + 3 + 2 * m) MAX_SIZE) full.0 in
    let few = ltb-true m MAX_STRANDS parts.0 in
    let room = leb-true (length ls + 3 + 2 * m) MAX_SIZE parts.1 in
    let least = braid.least in
    let now = length-append ls (letter_of_crossing m positive ∷ []) in
    record {
      least = omega arith;
      most = omega arith;
      crossings = All-append (IsLetter (m + 1)) ls (letter_of_crossing m positive ∷ [])
          (λ k d lt. let letter = braid.crossings k d lt in let below = letter.most in record { least = letter.least; most = omega arith })
          (All-cons (IsLetter (m + 1)) (letter_of_crossing m positive) [] (crossing_letter m positive least) (All-nil (IsLetter (m + 1))));
      room = omega arith;
    }
  where
    plus_letter : (k : ℕ) → 1 ≤ k → IsLetter (k + 1) (pos k)
    plus_letter k least = record { least = least; most = omega arith }

    crossing_letter : (k : ℕ) (s : Bool) → 1 ≤ k → IsLetter (k + 1) (letter_of_crossing k s)
    crossing_letter k true least = plus_letter k least
    crossing_letter k false least = letter_negated (k + 1) (pos k) (plus_letter k least)
step_braid w braid Shrink e =
    let alone = none_unless (may_shrink w) Shape None e in
    let last = last_letter w braid alone.0 in
    let two = last.strands in
    let most = braid.most in
    let room = braid.room in
    let size = length-take-le (length w.letters - 1) w.letters (omega arith) in
    record { least = omega arith; most = omega arith; crossings = last.fewer; room = omega arith }

abbrev word : ℕ → List ℤ → Word
word m letters = record { strands = m; letters = letters }

-- a word whose letters are known in parts, one of which is changed for others that act alike
from_letters : (t : Table) (m : ℕ) (letters front us vs rest : List ℤ) → letters ≡ front ++ (us ++ rest)
    → ActAlike t m (front ++ (us ++ rest)) (front ++ (vs ++ rest))
    → IsBijection (IsFixedPoint t (word m letters)) (IsFixedPoint t (word m (front ++ (vs ++ rest)))) (λ xs. xs)
from_letters t m letters front us vs rest is alike =
    subst (λ (ls : List ℤ). IsBijection (IsFixedPoint t (word m ls)) (IsFixedPoint t (word m (front ++ (vs ++ rest)))) (λ xs. xs)) (sym is)
    (alike_fixed t m (front ++ (us ++ rest)) (front ++ (vs ++ rest)) alike)

-- the fixed points of the new braid
pub step_carries : (t : Table) → IsQuandle t → (w : Word) → IsBraid w → (step : BraidMove) → first_step_fault w step ≡ None
    → IsBijection (IsFixedPoint t w) (IsFixedPoint t (moved w step)) (carried_tuple t w step)
step_carries t q w braid (Far p) e =
    let m = w.strands in
    let ls = w.letters in
    let range = none_unless (nat_lt (p + 1) (length ls)) Range _ e in
    let shape = none_unless (are_far (letter_at w p) (letter_at w (p + 1))) Shape None range.1 in
    let lt = ltb-true (p + 1) (length ls) range.0 in
    from_letters t m ls (take p ls) (at ls p ∷ at ls (p + 1) ∷ []) (at ls (p + 1) ∷ at ls p ∷ []) (drop (p + 2) ls) (two_at ls p lt)
    (alike_within t q m (take p ls) (at ls p ∷ at ls (p + 1) ∷ []) (at ls (p + 1) ∷ at ls p ∷ []) (drop (p + 2) ls) (All-take (IsLetter m) p ls braid.crossings)
    (far_alike t m (at ls p) (at ls (p + 1)) (letter_is m ls p braid.crossings (omega arith)) (letter_is m ls (p + 1) braid.crossings lt) shape.0))
step_carries t q w braid (Triple p) e =
    let m = w.strands in
    let ls = w.letters in
    let range = none_unless (nat_lt (p + 2) (length ls)) Range _ e in
    let shape = none_unless (are_triple (letter_at w p) (letter_at w (p + 1)) (letter_at w (p + 2))) Shape None range.1 in
    let lt = ltb-true (p + 2) (length ls) range.0 in
    from_letters t m ls (take p ls) (at ls p ∷ at ls (p + 1) ∷ at ls (p + 2) ∷ []) (at ls (p + 1) ∷ at ls p ∷ at ls (p + 1) ∷ []) (drop (p + 3) ls)
    (three_at ls p lt)
    (alike_within t q m (take p ls) (at ls p ∷ at ls (p + 1) ∷ at ls (p + 2) ∷ []) (at ls (p + 1) ∷ at ls p ∷ at ls (p + 1) ∷ []) (drop (p + 3) ls)
    (All-take (IsLetter m) p ls braid.crossings)
    (triple_alike t q m (at ls p) (at ls (p + 1)) (at ls (p + 2)) (letter_is m ls p braid.crossings (omega arith))
    (letter_is m ls (p + 1) braid.crossings (omega arith)) shape.0))
step_carries t q w braid (Cancel p) e =
    let m = w.strands in
    let ls = w.letters in
    let range = none_unless (nat_lt (p + 1) (length ls)) Range _ e in
    let shape = none_unless (int_eq (letter_at w (p + 1)) (neg_ℤ (letter_at w p))) Shape None range.1 in
    let lt = ltb-true (p + 1) (length ls) range.0 in
    from_letters t m ls (take p ls) (at ls p ∷ at ls (p + 1) ∷ []) [] (drop (p + 2) ls) (two_at ls p lt)
    (alike_within t q m (take p ls) (at ls p ∷ at ls (p + 1) ∷ []) [] (drop (p + 2) ls) (All-take (IsLetter m) p ls braid.crossings)
    (cancel_alike t q m (at ls p) (at ls (p + 1)) (letter_is m ls p braid.crossings (omega arith))
    ((Decides-int_eq (at ls (p + 1)) (neg_ℤ (at ls p))).0 shape.0)))
step_carries t q w braid (Insert place a) e =
    let m = w.strands in
    let ls = w.letters in
    let range = none_unless (nat_le place (length ls) && not (is_outside_strands m a)) Range _ e in
    let parts = and_parts (nat_le place (length ls)) (not (is_outside_strands m a)) range.0 in
    from_letters t m ls (take place ls) [] (a ∷ neg_ℤ a ∷ []) (drop place ls) (sym (take-append-drop place ls))
    (alike_within t q m (take place ls) [] (a ∷ neg_ℤ a ∷ []) (drop place ls) (All-take (IsLetter m) place ls braid.crossings)
    (λ xs tuple. sym (cancel_alike t q m a (neg_ℤ a) (not_outside m a parts.1) refl xs tuple)))
step_carries t q w braid (Turn k) e =
    let m = w.strands in
    let ls = w.letters in
    subst
    (λ (us : List ℤ). IsBijection (IsFixedPoint t (record { strands = m; letters = us })) (IsFixedPoint t (moved w (Turn k))) (carried_tuple t w (Turn k)))
    (take-append-drop k ls)
    (turned_fixed t q m (take k ls) (drop k ls) (All-take (IsLetter m) k ls braid.crossings) (All-drop (IsLetter m) k ls braid.crossings))
step_carries t q w braid (Grow positive) e = grown_fixed t q w.strands w.letters positive braid.least braid.crossings
step_carries t q w braid Shrink e =
    let alone = none_unless (may_shrink w) Shape None e in
    let last = last_letter w braid alone.0 in
    let two = last.strands in
    let front = take (length w.letters - 1) w.letters in
    subst (λ (v : Word). IsBijection (IsFixedPoint t v) (IsFixedPoint t (moved w Shrink)) (carried_tuple t w Shrink))
    (ap₂ word (let n : w.strands - 1 + 1 ≡ w.strands = omega arith in n) (sym last.letters))
    (dropped_fixed t q (w.strands - 1) front last.positive (omega arith) last.fewer)
