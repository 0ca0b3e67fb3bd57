-- An edge that stands at two ends leads from one passage to one exactly where its strand leaves one of the ends and comes to the other.
use Rattle.std.proofs.Common.{◌≡◌, ◌<◌, ◌≤◌, ◌+◌, ◌*◌, ◌/◌, ◌%◌, ◌==◌, ◌&&◌, ◌∷◌, ◌∙◌, [], ℕ, zero, suc, Bool, true, false, not, List, map, cond, length}
use Rattle.std.proofs.Common.{get_or, count_by, refl, sym, ap, ap₂, arith, inl, inr}
use Rattle.std.specs.Prelude.{slice_index, if◌then◌else◌}
use Rattle.std.proofs.lemmas.Bool.{eqb-true, eq-eqb, and_parts, cases_lt, both_ways}
use Rattle.std.proofs.lemmas.List.{get_or-map}
use Rattle.std.proofs.lemmas.List.Sums.{sum_by-cons}
use Rattle.crossing_codes.specs.declared.crossing.Crossing.{Crossing}
use Rattle.code_rows.specs.JoinedEdges.{passages_behind, passages_before, is_joined}
use Rattle.code_rows.specs.CodeMap.{no_crossing}
use Rattle.code_rows.proofs.OtherEnds.{counted_both}
use Rattle.code_rows.proofs.Ends.{four_ends, all_ends, no_end, before_is, behind_is, end_at, ends_long}
use Rattle.code_rows.specs.declared.row.CodeRow.{CodeRow}
use Rattle.code_rows.specs.Rows.{all_names}
use Rattle.code_rows.specs.RowsFault.{ends_of}
use Rattle.code_rows.specs.RowSigns.{turned_by, with_signs}
use Rattle.code_rows.proofs.InRange.{names_long}
use Rattle.code_rows.proofs.Signed.{signs_back, signed_long}
use Rattle.code_rows.proofs.Tied.{leaves}

-- one place and two that pass are counted
one_counted : {A : Type 0} (p : A → Bool) (xs : List A) (i : ℕ) (d : A) → i < length xs → cond (p (get_or xs i d)) 1 0 ≤ count_by p xs
one_counted p [] i d lt = absurd (omega (arith, lt))
one_counted p (x ∷ xs) zero d lt = let split = sum_by-cons (λ y. cond (p y) 1 0) x xs in omega (arith, split)
one_counted p (x ∷ xs) (suc i) d lt =
    let split = sum_by-cons (λ y. cond (p y) 1 0) x xs in
    let rest = one_counted p xs i d (omega (arith, lt)) in
    omega (arith, split, rest)

two_counted : {A : Type 0} (p : A → Bool) (xs : List A) (i j : ℕ) (d : A) → i < j → j < length xs
    → cond (p (get_or xs i d)) 1 0 + cond (p (get_or xs j d)) 1 0 ≤ count_by p xs
two_counted p [] i j d low lt = absurd (omega (arith, lt))
two_counted p (x ∷ xs) i zero d low lt = absurd (omega (arith, low))
two_counted p (x ∷ xs) zero (suc j) d low lt =
    let split = sum_by-cons (λ y. cond (p y) 1 0) x xs in
    let rest = one_counted p xs j d (omega (arith, lt)) in
    omega (arith, split, rest)
two_counted p (x ∷ xs) (suc i) (suc j) d low lt =
    let split = sum_by-cons (λ y. cond (p y) 1 0) x xs in
    let rest = two_counted p xs i j d (omega (arith, low)) (omega (arith, lt)) in
    omega (arith, split, rest)

-- what is counted stands at places
one_place : {A : Type 0} (p : A → Bool) (d : A) (xs : List A) → 1 ≤ count_by p xs → (j : ℕ) × (j < length xs) × (p (get_or xs j d) ≡ true)
one_place p d [] le = absurd (omega (arith, le))
one_place p d (x ∷ xs) le = by (p x) refl (λ more. one_place p d xs more)
  where
    by : (t : Bool) → p x ≡ t → (1 ≤ count_by p xs → (j : ℕ) × (j < length xs) × (p (get_or xs j d) ≡ true))
        → (j : ℕ) × (j < length (x ∷ xs)) × (p (get_or (x ∷ xs) j d) ≡ true)
    by true is rest = (0, omega arith, is)
    by false is rest =
        let e = ap {B = ℕ} (λ b. cond b 1 0) is in
        let split = sum_by-cons (λ y. cond (p y) 1 0) x xs in
        let found = rest (omega (arith, e, split, le)) in
        let lt = found.1 in
        (suc found.0, omega (arith, lt), found.2)

pub two_places : {A : Type 0} (p : A → Bool) (d : A) (xs : List A) → 2 ≤ count_by p xs
    → (i : ℕ) × (j : ℕ) × (i < j) × (j < length xs) × (p (get_or xs i d) ≡ true) × (p (get_or xs j d) ≡ true)
two_places p d [] le = absurd (omega (arith, le))
two_places p d (x ∷ xs) le = by (p x) refl (λ more. two_places p d xs more)
  where
    by : (t : Bool) → p x ≡ t
        → (2 ≤ count_by p xs → (i : ℕ) × (j : ℕ) × (i < j) × (j < length xs) × (p (get_or xs i d) ≡ true) × (p (get_or xs j d) ≡ true))
        → (i : ℕ) × (j : ℕ) × (i < j) × (j < length (x ∷ xs)) × (p (get_or (x ∷ xs) i d) ≡ true) × (p (get_or (x ∷ xs) j d) ≡ true)
    by true is rest =
        let e = ap {B = ℕ} (λ b. cond b 1 0) is in
        let split = sum_by-cons (λ y. cond (p y) 1 0) x xs in
        let found = one_place p d xs (omega (arith, e, split, le)) in
        let lt = found.1 in
        (0, suc found.0, omega arith, omega (arith, lt), is, found.2)
    by false is rest =
        let e = ap {B = ℕ} (λ b. cond b 1 0) is in
        let split = sum_by-cons (λ y. cond (p y) 1 0) x xs in
        let found = rest (omega (arith, e, split, le)) in
        let low = found.2 in
        let lt = found.3 in
        (suc found.0, suc found.1, omega (arith, low), omega (arith, lt), found.4, found.5)

-- the names at the ends of rows with signs
names_are : (rows : List CodeRow) (signs : List Bool) → map (λ (p : ℕ × Bool). p.0) (all_ends (with_signs rows signs)) ≡ all_names rows
names_are [] signs = refl
names_are (r ∷ rows) [] = ap (λ (ns : List ℕ). r.first ∷ r.second ∷ r.third ∷ r.fourth ∷ ns) (names_are rows [])
names_are (r ∷ rows) (sign ∷ signs) = ap (λ (ns : List ℕ). r.first ∷ r.second ∷ r.third ∷ r.fourth ∷ ns) (names_are rows signs)

counted_names : (e : ℕ) (ys : List (ℕ × Bool)) → count_by (λ (p : ℕ × Bool). p.0 == e) ys ≡ ends_of (map (λ (p : ℕ × Bool). p.0) ys) e
counted_names e [] = refl
counted_names e (y ∷ ys) =
    let here = sum_by-cons (λ (p : ℕ × Bool). cond (p.0 == e) 1 0) y ys in
    let there = sum_by-cons (λ (m : ℕ). cond (m == e) 1 0) y.0 (map (λ (p : ℕ × Bool). p.0) ys) in
    omega (arith, here, there, counted_names e ys)

-- where the strands leave
slot_leaves : (x : Crossing) (s : ℕ) → s < 4
    → (get_or (four_ends x) s no_end).1 ≡ (if s == 0 then false else if s == 1 then x.positive else if s == 2 then true else not x.positive)
slot_leaves x zero lt = refl
slot_leaves x (suc zero) lt = refl
slot_leaves x (suc (suc zero)) lt = refl
slot_leaves x (suc (suc (suc zero))) lt = refl
slot_leaves x (suc (suc (suc (suc s)))) lt = absurd (omega (arith, lt))

leaves_are : (rows : List CodeRow) (signs : List Bool) → length signs ≡ length rows → (d : ℕ) → d < 4 * length rows
    → (get_or (all_ends (with_signs rows signs)) d no_end).1 ≡ leaves signs d
leaves_are rows signs same d lt =
    let xs = with_signs rows signs in
    let k = d / 4 in
    let s = d % 4 in
    let place : d ≡ 4 * (d / 4) + d % 4 = omega arith in
    let slot : d % 4 < 4 = omega arith in
    let here : k < length xs = omega (arith, lt, signed_long rows signs) in
    let sign : (get_or xs k no_crossing).positive ≡ get_or signs k false =
    sym (get_or-map (λ (x : Crossing). x.positive) xs k no_crossing false here) ∙ ap (λ (bs : List Bool). get_or bs k false) (signs_back rows signs same) in
    ap (λ (i : ℕ). (get_or (all_ends xs) i no_end).1) place
    ∙ (ap (λ (p : ℕ × Bool). p.1) (end_at xs k s here slot)
    ∙ (slot_leaves (get_or xs k no_crossing) s slot
    ∙ ap (λ b. if s == 0 then false else if s == 1 then b else if s == 2 then true else not b) sign))

-- of two ends in all
told_apart : (a b : Bool) (behind before : ℕ) → before + behind ≡ 2 → cond a 1 0 + cond b 1 0 ≤ before → cond (not a) 1 0 + cond (not b) 1 0 ≤ behind
    → (behind == 1) && (before == 1) ≡ turned_by a b
told_apart true true behind before two left come =
    let none : behind ≡ 0 = omega (arith, two, left) in ap (λ (m : ℕ). (m == 1) && (before == 1)) none
told_apart true false behind before two left come =
    let one : behind ≡ 1 = omega (arith, two, left, come) in
    let other : before ≡ 1 = omega (arith, two, left, come) in
    ap₂ (λ (m k : ℕ). (m == 1) && (k == 1)) one other
told_apart false true behind before two left come =
    let one : behind ≡ 1 = omega (arith, two, left, come) in
    let other : before ≡ 1 = omega (arith, two, left, come) in
    ap₂ (λ (m k : ℕ). (m == 1) && (k == 1)) one other
told_apart false false behind before two left come =
    let both : behind ≡ 2 = omega (arith, two, come) in ap (λ (m : ℕ). (m == 1) && (before == 1)) both

pub joined_is : (rows : List CodeRow) (signs : List Bool) (e one two : ℕ) → length signs ≡ length rows → ends_of (all_names rows) e ≡ 2
    → one < two → two < length (all_names rows) → slice_index (all_names rows) one ≡ e → slice_index (all_names rows) two ≡ e
    → is_joined (with_signs rows signs) e ≡ turned_by (leaves signs one) (leaves signs two)
joined_is rows signs e one two same twice low lt first second =
    let xs = with_signs rows signs in
    let ys = all_ends xs in
    let key = λ (p : ℕ × Bool). p.0 == e in
    let long : length ys ≡ 4 * length rows = let a = ends_long xs in let b = signed_long rows signs in omega (arith, a, b) in
    let all = names_long rows in
    let sum = counted_both key (λ (p : ℕ × Bool). p.1) ys in
    let counted : count_by key ys ≡ 2 = counted_names e ys ∙ (ap (λ (ns : List ℕ). ends_of ns e) (names_are rows signs) ∙ twice) in
    let named = λ (d : ℕ) (within : d < length ys) (is : slice_index (all_names rows) d ≡ e).
    eq-eqb (get_or ys d no_end).0 e
    (sym (get_or-map (λ (p : ℕ × Bool). p.0) ys d no_end 0 within) ∙ (ap (λ (ns : List ℕ). get_or ns d 0) (names_are rows signs) ∙ is)) in
    let two_lt : two < length ys = omega (arith, lt, all, long) in
    let one_lt : one < length ys = omega (arith, low, two_lt) in
    let a_key = named one one_lt first in
    let b_key = named two two_lt second in
    let a = leaves_are rows signs same one (omega (arith, one_lt, long)) in
    let b = leaves_are rows signs same two (omega (arith, two_lt, long)) in
    let left = two_counted (λ (p : ℕ × Bool). (p.0 == e) && p.1) ys one two no_end low two_lt in
    let come = two_counted (λ (p : ℕ × Bool). (p.0 == e) && not p.1) ys one two no_end low two_lt in
    let a_left = ap₂ {C = ℕ} (λ (k t : Bool). cond (k && t) 1 0) a_key a in
    let b_left = ap₂ {C = ℕ} (λ (k t : Bool). cond (k && t) 1 0) b_key b in
    let a_come = ap₂ {C = ℕ} (λ (k t : Bool). cond (k && not t) 1 0) a_key a in
    let b_come = ap₂ {C = ℕ} (λ (k t : Bool). cond (k && not t) 1 0) b_key b in
    told_apart (leaves signs one) (leaves signs two) (passages_behind xs e) (passages_before xs e)
    (omega (arith, sum, counted, before_is e xs, behind_is e xs)) (omega (arith, left, a_left, b_left, before_is e xs))
    (omega (arith, come, a_come, b_come, behind_is e xs))

-- an edge that leads from one passage to one stands at two ends
pub joined_twice : (rows : List CodeRow) (signs : List Bool) (e : ℕ) → is_joined (with_signs rows signs) e ≡ true → ends_of (all_names rows) e ≡ 2
joined_twice rows signs e is =
    let xs = with_signs rows signs in
    let parts = and_parts (passages_behind xs e == 1) (passages_before xs e == 1) is in
    let behind = eqb-true (passages_behind xs e) 1 parts.0 in
    let before = eqb-true (passages_before xs e) 1 parts.1 in
    let sum = counted_both (λ (p : ℕ × Bool). p.0 == e) (λ (p : ℕ × Bool). p.1) (all_ends xs) in
    let counted = counted_names e (all_ends xs) ∙ ap (λ (ns : List ℕ). ends_of ns e) (names_are rows signs) in
    omega (arith, sum, counted, before_is e xs, behind_is e xs, behind, before)

-- of an edge at two ends the first end that is found has one behind it
pub one_found : (names : List ℕ) (edge one : ℕ) → ends_of names edge ≡ 2
    → ((k : ℕ) → 0 ≤ k → k < one → (slice_index names k == edge) ≡ false) → one + 1 < length names
one_found names edge one twice before =
    let found = two_places (λ (m : ℕ). m == edge) 0 names (omega (arith, twice)) in
    let low = found.2 in
    let lt = found.3 in
    elim (cases_lt found.0 one) [
      | inl early ↦ absurd (both_ways (slice_index names found.0 == edge) (before found.0 (omega arith) early) found.4)
      | inr le ↦ omega (arith, low, lt, le)
    ]

-- and the next one is found too
pub two_found : (names : List ℕ) (edge one two : ℕ) → ends_of names edge ≡ 2
    → ((k : ℕ) → 0 ≤ k → k < one → (slice_index names k == edge) ≡ false)
    → ((k : ℕ) → one + 1 ≤ k → k < two → (slice_index names k == edge) ≡ false) → two < length names
two_found names edge one two twice before between =
    let found = two_places (λ (m : ℕ). m == edge) 0 names (omega (arith, twice)) in
    let low = found.2 in
    let lt = found.3 in
    let at : one ≤ found.0 = elim (cases_lt found.0 one) [
      | inl early ↦ absurd (both_ways (slice_index names found.0 == edge) (before found.0 (omega arith) early) found.4)
      | inr le ↦ le
    ] in
    elim (cases_lt found.1 two) [
      | inl early ↦ absurd (both_ways (slice_index names found.1 == edge) (between found.1 (omega (arith, low, at)) early) found.5)
      | inr le ↦ omega (arith, lt, le)
    ]
