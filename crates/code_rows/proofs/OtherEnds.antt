-- In a code whose edges join passages, each end of an edge has another one.
use Rattle.std.proofs.Common.{◌≡◌, ◌<◌, ◌≤◌, ◌+◌, ◌-◌, ◌*◌, ◌/◌, ◌%◌, ◌==◌, ◌&&◌, ◌⊎◌, ◌∙◌, ◌∷◌, [], ℕ, zero, suc, Bool, true, false, not, List}
use Rattle.std.proofs.Common.{Option, Some, None, cond, length, get_or, count_by, refl, sym, ap, subst, arith, inl, inr}
use Rattle.std.specs.Prelude.{slice_index_or, nat_le, if◌then◌else◌}
use Rattle.std.specs.List.{remove}
use Rattle.std.proofs.lemmas.Bool.{cases_lt, eqb-true, ne_eqb, leb-true, and_parts, and_from, not-false, not_from_false}
use Rattle.std.proofs.lemmas.List.Sums.{sum_by-cons, sum_by-remove}
use Rattle.std.proofs.lemmas.List.Edits.{get_or-remove_below, get_or-remove_above, length-remove}
use Rattle.grid_core.specs.Fault.{lowest, or_next}
use Rattle.grid_core.proofs.Accepted.{none_lowest}
use Rattle.crossing_codes.specs.declared.crossing.Code.{Code}
use Rattle.crossing_codes.specs.declared.crossing.Crossing.{Crossing}
use Rattle.crossing_codes.specs.CodeColouring.{is_edge, names_edges}
use Rattle.code_rows.specs.declared.code_fault.CodeFault.{CodeFault}
use Rattle.code_rows.specs.declared.code_fault.CodeFault.TheVariants.{Empty, Size, Count, Range, Edge, Plane}
use Rattle.code_rows.specs.declared.code_fault.TheConstants.{MAX_CROSSINGS}
use Rattle.code_rows.specs.JoinedEdges.{passages_behind, passages_before, is_joined}
use Rattle.code_rows.specs.CodeMap.{darts, in_slot, no_crossing, edge_at, is_plane}
use Rattle.code_rows.specs.CodeFault.{is_empty, first_code_fault}
use Rattle.code_rows.specs.Chains.{HaveOtherEnds}
use Rattle.code_rows.proofs.Ends.{four_ends, all_ends, no_end, before_is, behind_is, end_at, ends_long}

-- a code without a fault but that of the plane
abbrev pub JoinsPassages : Code → Type 0
JoinsPassages c = (first_code_fault c ≡ None) ⊎ (first_code_fault c ≡ Some Plane)

-- the last of the faults
abbrev last_fault : Bool → Option CodeFault
last_fault plane = if plane then None else Some Plane

-- a fault that is none or that of the plane
abbrev IsLast : Option CodeFault → Type 0
IsLast o = (o ≡ None) ⊎ (o ≡ Some Plane)

other_fault : (f : CodeFault) → (f ≡ Plane → ⊥) → IsLast (Some f) → ⊥
other_fault f ne is = elim is [
  | inl e ↦ let no : ◌≡◌ {A = Option CodeFault} (Some f) None = e in cc
  | inr e ↦ ne (let same : ◌≡◌ {A = Option CodeFault} (Some f) (Some Plane) = e in cc)
]

none_by : (empty size count : Bool) (range edge : Option ℕ) (plane : Bool)
    → IsLast (if empty then Some Empty else if not size then Some Size else if not count then Some Count
    else or_next range (λ k. Range k) (or_next edge (λ e. Edge (e + 1)) (last_fault plane)))
    → (range ≡ None) × (edge ≡ None)
none_by true size count range edge plane is = absurd (other_fault Empty (λ e. cc) is)
none_by false false count range edge plane is = absurd (other_fault Size (λ e. cc) is)
none_by false true false range edge plane is = absurd (other_fault Count (λ e. cc) is)
none_by false true true (Some k) edge plane is = absurd (other_fault (Range k) (λ e. cc) is)
none_by false true true None (Some k) plane is = absurd (other_fault (Edge (k + 1)) (λ e. cc) is)
none_by false true true None None plane is = (refl, refl)

-- 1 where a test holds
abbrev one_if : Bool → ℕ
one_if b = cond b 1 0

-- a count of at least one has a place
some_place : {A : Type 0} (p : A → Bool) (none : A) (xs : List A) → 1 ≤ count_by p xs → (k : ℕ) × (k < length xs) × (p (get_or xs k none) ≡ true)
some_place p none [] le = absurd (omega (arith, le))
some_place p none (x ∷ xs) le = by (p x) refl (λ more. some_place p none xs more)
  where
    by : (t : Bool) → p x ≡ t → (1 ≤ count_by p xs → (k : ℕ) × (k < length xs) × (p (get_or xs k none) ≡ true))
        → (k : ℕ) × (k < length (x ∷ xs)) × (p (get_or (x ∷ xs) k none) ≡ true)
    by true is rest = (0, omega arith, is)
    by false is rest =
        let e = ap (λ b. one_if b) is in
        let split = sum_by-cons (λ y. cond (p y) 1 0) x xs in
        let found = rest (omega (arith, e, split, le)) in
        let lt = found.1 in
        (suc found.0, omega (arith, lt), found.2)

-- of two that pass there is another one than the one at i
another : (p : ℕ × Bool → Bool) (ys : List (ℕ × Bool)) (i : ℕ) → i < length ys → count_by p ys ≡ 2
    → (j : ℕ) × (j < length ys) × (j ≡ i → ⊥) × (p (get_or ys j no_end) ≡ true)
another p ys i lt two =
    let zs = remove ys i in
    let long = length-remove ys i lt in
    let less = sum_by-remove (λ y. cond (p y) 1 0) ys i no_end lt in
    let most = at_most (p (get_or ys i no_end)) in
    let found = some_place p no_end zs (omega (arith, less, most, two)) in
    let k = found.0 in
    let within = found.1 in
    elim (cases_lt k i) [
      | inl low ↦ (k, omega (arith, low, lt), (λ e. omega (arith, e, low)), ap p (sym (get_or-remove_below ys i no_end k low lt)) ∙ found.2)
      | inr high ↦
          (k + 1, omega (arith, within, long, lt), (λ e. omega (arith, e, high)), ap p (sym (get_or-remove_above ys i no_end k high lt)) ∙ found.2)
    ]
  where
    at_most : (b : Bool) → cond b 1 0 ≤ 1
    at_most true = omega arith
    at_most false = omega arith

-- the ends of an edge that joins passages are two
pub counted_both : (p q : ℕ × Bool → Bool) (ys : List (ℕ × Bool)) → count_by p ys ≡ count_by (λ y. p y && q y) ys + count_by (λ y. p y && not (q y)) ys
counted_both p q [] = refl
counted_both p q (y ∷ ys) =
    let all = sum_by-cons (λ z. cond (p z) 1 0) y ys in
    let yes = sum_by-cons (λ z. cond (p z && q z) 1 0) y ys in
    let others = sum_by-cons (λ z. cond (p z && not (q z)) 1 0) y ys in
    omega (arith, all, yes, others, split (p y) (q y), counted_both p q ys)
  where
    split : (a b : Bool) → cond a 1 0 ≡ cond (a && b) 1 0 + cond (a && not b) 1 0
    split true true = refl
    split true false = refl
    split false b = refl

two_ends : (xs : List Crossing) (e : ℕ) → is_joined xs e ≡ true → count_by (λ (p : ℕ × Bool). p.0 == e) (all_ends xs) ≡ 2
two_ends xs e is =
    let parts = and_parts (passages_behind xs e == 1) (passages_before xs e == 1) is in
    let behind = eqb-true (passages_behind xs e) 1 parts.0 in
    let before = eqb-true (passages_before xs e) 1 parts.1 in
    omega (arith, counted_both (λ p. p.0 == e) (λ p. p.1) (all_ends xs), behind_is e xs, before_is e xs, behind, before)

-- the edge at a dart
slot_edge : (x : Crossing) (s : ℕ) → s < 4 → (get_or (four_ends x) s no_end).0 ≡ in_slot x s
slot_edge x zero lt = refl
slot_edge x (suc zero) lt = refl
slot_edge x (suc (suc zero)) lt = refl
slot_edge x (suc (suc (suc zero))) lt = refl
slot_edge x (suc (suc (suc (suc s)))) lt = absurd (omega (arith, lt))

dart_edge : (xs : List Crossing) (d : ℕ) → d < darts xs → (get_or (all_ends xs) d no_end).0 ≡ edge_at xs d
dart_edge xs d lt =
    let place : d ≡ 4 * (d / 4) + d % 4 = omega arith in
    let slot : d % 4 < 4 = omega arith in
    ap (λ (i : ℕ). (get_or (all_ends xs) i no_end).0) place
    ∙ (ap (λ (p : ℕ × Bool). p.0) (end_at xs (d / 4) (d % 4) (omega (arith, lt)) slot) ∙ slot_edge (slice_index_or xs (d / 4) no_crossing) (d % 4) slot)

-- a crossing that names edges has one in each slot
named_slot : (edges : ℕ) (x : Crossing) (s : ℕ) → names_edges edges x ≡ true → is_edge edges (in_slot x s) ≡ true
named_slot edges x s is = by (s == 0) (s == 1) (s == 2)
  where
    rest : (is_edge edges x.first ≡ true) × (is_edge edges x.second ≡ true) × (is_edge edges x.third ≡ true) × (is_edge edges x.fourth ≡ true)
    rest =
        let three = and_parts (is_edge edges x.first && is_edge edges x.second && is_edge edges x.third) (is_edge edges x.fourth) is in
        let two = and_parts (is_edge edges x.first && is_edge edges x.second) (is_edge edges x.third) three.0 in
        let one = and_parts (is_edge edges x.first) (is_edge edges x.second) two.0 in
        (one.0, one.1, two.1, three.1)

    by : (a b c : Bool) → is_edge edges (if a then x.first else if b then x.second else if c then x.third else x.fourth) ≡ true
    by true b c = rest.0
    by false true c = rest.1
    by false false true = rest.2
    by false false false = rest.3

pub other_ends : (c : Code) → JoinsPassages c → HaveOtherEnds c.crossings
other_ends c joins d lt =
    let xs = c.crossings in
    let n = length xs in
    let range = lowest (λ k. not (names_edges c.edges (slice_index_or xs k no_crossing))) n in
    let edge = lowest (λ e. not (is_joined xs (e + 1))) c.edges in
    let none = none_by (is_empty c) (nat_le n MAX_CROSSINGS) (c.edges == 2 * n) range edge (is_plane xs) joins in
    let k = d / 4 in
    let here : k < n = omega (arith, lt) in
    let named = not-false (names_edges c.edges (slice_index_or xs k no_crossing))
    (none_lowest (λ i. not (names_edges c.edges (slice_index_or xs i no_crossing))) n none.0 k here) in
    let e = edge_at xs d in
    let bounds = and_parts (nat_le 1 e) (nat_le e c.edges) (named_slot c.edges (slice_index_or xs k no_crossing) (d % 4) named) in
    let low = leb-true 1 e bounds.0 in
    let high = leb-true e c.edges bounds.1 in
    let same : e - 1 + 1 ≡ e = omega (arith, low) in
    let joined : is_joined xs e ≡ true =
    subst (λ (i : ℕ). is_joined xs i ≡ true) same
    (not-false (is_joined xs (e - 1 + 1)) (none_lowest (λ i. not (is_joined xs (i + 1))) c.edges none.1 (e - 1) (omega (arith, low, high)))) in
    let long = ends_long xs in
    let other = another (λ (p : ℕ × Bool). p.0 == e) (all_ends xs) d (omega (arith, lt, long)) (two_ends xs e joined) in
    let j = other.0 in
    let j_lt = other.1 in
    let inside : j < darts xs = omega (arith, j_lt, long) in
    let edge_is : (edge_at xs j == e) ≡ true = ap (λ (i : ℕ). i == e) (sym (dart_edge xs j inside)) ∙ other.3 in
    (j, inside, and_from (edge_at xs j == e) (not (j == d)) edge_is (not_from_false (j == d) (ne_eqb j d other.2)))
