-- The edge or loop on which a column begins.
use Rattle.std.proofs.Common.{◌≡◌, ◌<◌, ◌≤◌, ◌+◌, ◌-◌, ◌++◌, ◌∙◌, ◌∷◌, [], inl, inr, ℕ, Bool, true, false, List, length, get_or, refl, sym}
use Rattle.std.proofs.Common.{ap, arith, ◌==◌, ◌||◌}
use Rattle.std.specs.Prelude.{nat_lt, if◌then◌else◌}
use Rattle.std.specs.List.{list_any, position_or_len}
use Rattle.std.proofs.lemmas.Bool.{cases_lt, cases_order, eqb-true, eq-eqb, or_cases, or_left, lt-ltb, le-ltb, cond-true, cond-false, false_from_ne_true}
use Rattle.std.proofs.lemmas.List.{append-nil, length-append, get_or-append-add, nil_from_length}
use Rattle.std.proofs.lemmas.List.Sums.{position_or_len_is}
use Rattle.grid_core.specs.Diagram.{Diagram, IsGrid, size}
use Rattle.crossing_codes.specs.declared.passages.Passage.{Passage}
use Rattle.crossing_codes.specs.Components.{column_after, round_length, component, component_starts}
use Rattle.crossing_codes.specs.Passages.{passages_from, passages}
use Rattle.crossing_codes.specs.Edges.{place, loops}
use Rattle.crossing_codes.specs.EdgeColouring.{place_by_first_passage, place_where_column_begins}
use Rattle.crossing_codes.proofs.Members.{Has, has_at, one_place, has_filter, of_filter, apart_filter}
use Rattle.crossing_codes.proofs.ColumnsAfter.{IsRound, after_below, after_add, after_once, round_is}
use Rattle.crossing_codes.proofs.SharedColumns.{has_after, start_below, one_start, starts_apart}
use Rattle.crossing_codes.proofs.AllPassages.{place_is}
use Rattle.crossing_codes.proofs.Legs.{legs, round_legs, legs_split, turned_round}
use Rattle.crossing_codes.proofs.Placed.{IsPlaced}

-- all columns of a component have rounds of one length
pub same_round : (d : Diagram) → (c m n : ℕ) → IsRound d c m → IsRound d c n → m ≡ n
same_round d c m n a b = elim (cases_order m n) [
  | inl same ↦ same
  | inr other ↦ elim other [
    | inl less ↦ absurd (let some = a.some in let e : m - 1 + 1 ≡ m = omega arith in b.first (m - 1) (omega arith) (ap (λ k. column_after d k c) e ∙ a.back))
    | inr more ↦ absurd (let some = b.some in let e : n - 1 + 1 ≡ n = omega arith in a.first (n - 1) (omega arith) (ap (λ k. column_after d k c) e ∙ b.back))
  ]
]

swapped : (d : Diagram) (j k s : ℕ) → column_after d k (column_after d j s) ≡ column_after d j (column_after d k s)
swapped d j k s = let e : k + j ≡ j + k = omega arith in sym (after_add d k j s) ∙ (ap (λ i. column_after d i s) e ∙ after_add d j k s)

later_round : (d : Diagram) → IsGrid d → (s j : ℕ) → s < size d → round_length d (column_after d j s) ≡ round_length d s
later_round d grid s j lt =
    let round = round_is d grid s lt in
    same_round d (column_after d j s) (round_length d (column_after d j s)) (round_length d s)
    (round_is d grid (column_after d j s) (after_below d grid j s lt)) (record {
      some = round.some;
      most = round.most;
      back = swapped d j (round_length d s) s ∙ ap (column_after d j) round.back;
      first =
          λ k less e. round.first k less
          (after_once d grid j (column_after d (k + 1) s) s (after_below d grid (k + 1) s lt) lt (sym (swapped d j (k + 1) s) ∙ e));
    })

-- how many passages of the component of s lie before its j-th column
abbrev pub before : Diagram → ℕ → ℕ → ℕ
before d s j = length (legs d s 0 j)

pub round_parts : (d : Diagram) → (s j : ℕ) → j ≤ round_length d s → passages_from d s ≡ legs d s 0 j ++ legs d s j (round_length d s - j)
round_parts d s j most =
    let n = round_length d s in
    let whole : n ≡ j + (n - j) = omega arith in
    let e : 0 + j ≡ j = omega arith in
    round_legs d s ∙ (ap (legs d s 0) whole ∙ (legs_split d s 0 j (n - j) ∙ ap (λ (i : ℕ). legs d s 0 j ++ legs d s i (n - j)) e))

pub turned_parts : (d : Diagram) → IsGrid d → (s j : ℕ) → s < size d → j ≤ round_length d s
    → passages_from d (column_after d j s) ≡ legs d s j (round_length d s - j) ++ legs d s 0 j
turned_parts d grid s j lt most =
    round_legs d (column_after d j s) ∙ (ap (legs d (column_after d j s) 0) (later_round d grid s j lt) ∙ turned_round d grid s j lt most)

pub before_most : (d : Diagram) → (s j : ℕ) → j ≤ round_length d s → before d s j ≤ length (passages_from d s)
before_most d s j most = omega (arith, ap length (round_parts d s j most), length-append (legs d s 0 j) (legs d s j (round_length d s - j)))

-- the place in a round after q of its n passages
abbrev pub turn : ℕ → ℕ → ℕ
turn n q = if nat_lt q n then q else 0

pub turn_less : (n q : ℕ) → q < n → turn n q ≡ q
turn_less n q lt = cond-true (nat_lt q n) q 0 (lt-ltb q n lt)

pub turn_whole : (n q : ℕ) → n ≤ q → turn n q ≡ 0
turn_whole n q le = cond-false (nat_lt q n) q 0 (le-ltb q n le)

-- the first of the other part where there is one, else of the whole
first_of : {A : Type 0} (xs ys : List A) (z : A) → 0 < length (xs ++ ys) → get_or (ys ++ xs) 0 z ≡ get_or (xs ++ ys) (turn (length (xs ++ ys)) (length xs)) z
first_of xs [] z some =
    let whole = turn_whole (length (xs ++ [])) (length xs) (omega (arith, length-append xs [])) in
    ap (λ (ws : List _). get_or ws 0 z) (sym (append-nil xs)) ∙ ap (λ (i : ℕ). get_or (xs ++ []) i z) (sym whole)
first_of xs (y ∷ ys) z some =
    let less = turn_less (length (xs ++ y ∷ ys)) (length xs) (omega (arith, length-append xs (y ∷ ys))) in
    let e : length xs + 0 ≡ length xs = omega arith in
    sym (ap (λ (i : ℕ). get_or (xs ++ y ∷ ys) i z) (less ∙ sym e) ∙ get_or-append-add xs (y ∷ ys) 0 z)

strand_first : (d : Diagram) (c : ℕ) (ps : List Passage) (z : Passage) → 0 < length ps → place_by_first_passage d c ps ≡ place d (get_or ps 0 z)
strand_first d c [] z some = absurd (omega arith)
strand_first d c (p ∷ ps) z some = refl

-- a column of a component with passages begins on the edge that leads to the passage after those before it
pub begins_on_edge : (d : Diagram) → IsGrid d → (s b j : ℕ) → IsPlaced d s b → j ≤ round_length d s → 0 < length (passages_from d s)
    → place_where_column_begins d (column_after d j s) ≡ b + turn (length (passages_from d s)) (before d s j)
begins_on_edge d grid s b j p most some =
    let z : Passage = record { over = true; column = 0; row = 0 } in
    let lt = start_below d s p.start in
    let c = column_after d j s in
    let xs = legs d s 0 j in
    let ys = legs d s j (round_length d s - j) in
    let ps = passages_from d s in
    let parts = round_parts d s j most in
    let turned = turned_parts d grid s j lt most in
    let size_turned : 0 < length (passages_from d c) = omega (arith, ap length turned, ap length parts, length-append xs ys, length-append ys xs) in
    let i = turn (length ps) (length xs) in
    let first : get_or (passages_from d c) 0 z ≡ get_or ps i z =
    ap (λ (ws : List Passage). get_or ws 0 z) turned
    ∙ (first_of xs ys z (omega (arith, ap length parts)) ∙ ap (λ (ws : List Passage). get_or ws (turn (length ws) (length xs)) z) (sym parts)) in
    let within : i < length ps =
    elim (cases_lt (length xs) (length ps)) [
      | inl less ↦ omega (arith, turn_less (length ps) (length xs) less)
      | inr whole ↦ omega
          (arith, turn_whole (length ps) (length xs) whole)
    ] in
    let inside = p.within in
    strand_first d c (passages_from d c) z size_turned
    ∙ (ap (place d) first
    ∙ place_is d grid (get_or ps i z).over (get_or ps i z).column (get_or ps i z).row (b + i) z (omega arith) (p.passage i z within))

-- loops
pub any_has : (c : ℕ) (xs : List ℕ) → list_any (λ b. b == c) xs ≡ true → Has xs c
any_has c [] e = absurd (let f : false ≡ true = e in cc)
any_has c (x ∷ xs) e = elim (or_cases (x == c) (list_any (λ b. b == c) xs) e) [ inl here ↦ inl (eqb-true x c here) | inr more ↦ inr (any_has c xs more) ]

pub has_any : (c : ℕ) (xs : List ℕ) → Has xs c → list_any (λ b. b == c) xs ≡ true
has_any c [] h = absurd h
has_any c (x ∷ xs) h = elim h [
  | inl same ↦ or_left (x == c) (list_any (λ b. b == c) xs) (eq-eqb x c same)
  | inr more ↦ by (x == c) (has_any c xs more)
]
  where
    by : (t : Bool) → list_any (λ b. b == c) xs ≡ true → (t || list_any (λ b. b == c) xs) ≡ true
    by true e = refl
    by false e = e

pub loop_start : (d : Diagram) (s : ℕ) → Has (loops d) s → Has (component_starts d) s
loop_start d s h = (of_filter (λ c. length (passages_from d c) == 0) (component_starts d) s h).0

pub loop_empty : (d : Diagram) (s : ℕ) → Has (loops d) s → length (passages_from d s) ≡ 0
loop_empty d s h = eqb-true (length (passages_from d s)) 0 (of_filter (λ c. length (passages_from d c) == 0) (component_starts d) s h).1

pub has_loop : (d : Diagram) (s : ℕ) → Has (component_starts d) s → length (passages_from d s) ≡ 0 → Has (loops d) s
has_loop d s h e = has_filter (λ c. length (passages_from d c) == 0) (component_starts d) s h (eq-eqb (length (passages_from d s)) 0 e)

pub loop_place : (d : Diagram) → IsGrid d → (i c : ℕ) → i < length (loops d) → Has (component d (get_or (loops d) i 0)) c
    → position_or_len (λ s. list_any (λ b. b == c) (component d s)) (loops d) ≡ i
loop_place d grid i c lt h =
    position_or_len_is (λ s. list_any (λ b. b == c) (component d s)) (loops d) i 0 (omega arith)
    (λ k less. false_from_ne_true (list_any (λ b. b == c) (component d (get_or (loops d) k 0))) (λ e.
    let hk = loop_start d (get_or (loops d) k 0) (has_at (loops d) k 0 (omega arith)) in
    let hi = loop_start d (get_or (loops d) i 0) (has_at (loops d) i 0 lt) in
    let same = one_start d grid (get_or (loops d) k 0) (get_or (loops d) i 0) c hk hi (any_has c (component d (get_or (loops d) k 0)) e) h in
    let place = one_place (loops d) 0 k i (apart_filter (λ s. length (passages_from d s) == 0) (component_starts d) (starts_apart d)) (omega arith) lt same in
    absurd (omega arith)))
    (λ within. has_any c (component d (get_or (loops d) i 0)) h)

-- each column of a loop begins on it
pub begins_on_loop : (d : Diagram) → IsGrid d → (i j : ℕ) → i < length (loops d) → j < round_length d (get_or (loops d) i 0)
    → place_where_column_begins d (column_after d j (get_or (loops d) i 0)) ≡ length (passages d) + i
begins_on_loop d grid i j lt less =
    let s = get_or (loops d) i 0 in
    let h = has_at (loops d) i 0 lt in
    let xs = legs d s 0 j in
    let ys = legs d s j (round_length d s - j) in
    let parts = round_parts d s j (omega arith) in
    let turned = turned_parts d grid s j (start_below d s (loop_start d s h)) (omega arith) in
    let empty =
    nil_from_length (passages_from d (column_after d j s))
    (omega (arith, ap length turned, ap length parts, length-append xs ys, length-append ys xs, loop_empty d s h)) in
    ap (place_by_first_passage d (column_after d j s)) empty
    ∙ ap (λ (k : ℕ). length (passages d) + k) (loop_place d grid i (column_after d j s) lt (has_after d s j less))
