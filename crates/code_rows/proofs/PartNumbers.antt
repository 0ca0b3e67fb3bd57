-- The numbers of parts, when the ends of so many darts join crossings: each is the least crossing that is joined to a crossing.
use Rattle.std.proofs.Common.{◌≡◌, ◌<◌, ◌≤◌, ◌+◌, ◌/◌, ◌∙◌, ◌⊎◌, ◌==◌, ℕ, zero, suc, Bool, List, length, cond, min, max}
use Rattle.std.proofs.Common.{arith, sym, subst, ap, inl, inr}
use Rattle.std.specs.Prelude.{slice_index}
use Rattle.std.specs.List.{range_with_len}
use Rattle.std.proofs.Math.Nat.{max-le, le-max_left, le-max_right, min-le_left, min-eq_left, min-eq_right}
use Rattle.std.proofs.lemmas.Bool.{cases_eq, cases_lt, eq-eqb, ne_eqb}
use Rattle.std.proofs.lemmas.List.{length-map, get_or-map}
use Rattle.std.proofs.lemmas.List.FromFn.{length-range_with_len, get_or-range_with_len}
use Rattle.code_rows.specs.CodeMap.{united_parts, parts_below}

-- what becomes of a number when parts a and b become one
abbrev after : ℕ → ℕ → ℕ → ℕ
after a b i = cond (i == max a b) (min a b) i

after_greater : (a b i : ℕ) → i ≡ max a b → after a b i ≡ min a b
after_greater a b i is = ap (λ (t : Bool). cond t (min a b) i) (eq-eqb i (max a b) is)

after_other : (a b i : ℕ) → (i ≡ max a b → ⊥) → after a b i ≡ i
after_other a b i ne = ap (λ (t : Bool). cond t (min a b) i) (ne_eqb i (max a b) ne)

-- the one of the two is the lesser and the other the greater
abbrev AreTheTwo : ℕ → ℕ → Type 0
AreTheTwo a b = ((min a b ≡ a) × (max a b ≡ b)) ⊎ ((min a b ≡ b) × (max a b ≡ a))

the_two : (a b : ℕ) → AreTheTwo a b
the_two a b = elim (cases_lt a b) [
  | inl lt ↦
      let le : a ≤ b = omega (arith, lt) in
      let top : max a b ≤ b = max-le le (omega arith) in
      let over = le-max_right a b in
      inl (min-eq_left le, omega (arith, top, over))
  | inr le ↦
      let top : max a b ≤ a = max-le (omega arith) le in
      let over = le-max_left a b in
      inr (min-eq_right le, omega (arith, top, over))
]

after_lesser : (a b : ℕ) → after a b (min a b) ≡ min a b
after_lesser a b = elim (cases_eq (min a b) (max a b)) [
  | inl is ↦ after_greater a b (min a b) is
  | inr ne ↦ after_other a b (min a b) ne
]

after_le : (a b i : ℕ) → after a b i ≤ i
after_le a b i = elim (cases_eq i (max a b)) [
  | inl is ↦
      let e = after_greater a b i is in
      let low = min-le_left a b in
      let high = le-max_left a b in
      omega (arith, e, is, low, high)
  | inr ne ↦ let e = after_other a b i ne in omega (arith, e)
]

-- both become the lesser
after_both : (a b : ℕ) → (after a b a ≡ min a b) × (after a b b ≡ min a b)
after_both a b = elim (the_two a b) [
  | inl is ↦ (ap (after a b) (sym is.0) ∙ after_lesser a b, after_greater a b b (sym is.1))
  | inr is ↦ (after_greater a b a (sym is.1), ap (after a b) (sym is.0) ∙ after_lesser a b)
]

-- each dart runs from a crossing to a crossing
abbrev pub RunBetween : List ℕ → ℕ → Type 0
RunBetween ends n = (d : ℕ) → d < length ends → (d / 4 < n) × (slice_index ends d / 4 < n)

-- the crossings at the two ends of each of the first so many darts have one number
record IsNumbering (ends : List ℕ) (n d : ℕ) (numbers : List ℕ) : Type 0 where
  long : length numbers ≡ n
  least : (k : ℕ) → k < n → slice_index numbers k ≤ k
  fixed : (k : ℕ) → k < n → slice_index numbers (slice_index numbers k) ≡ slice_index numbers k
  joined : (e : ℕ) → e < d → slice_index numbers (e / 4) ≡ slice_index numbers (slice_index ends e / 4)

at_first : (ends : List ℕ) (n : ℕ) → IsNumbering ends n 0 (range_with_len 0 n)
at_first ends n = record {
  long = length-range_with_len 0 n;
  least = λ k lt. omega (arith, own k lt);
  fixed = λ k lt. ap (slice_index (range_with_len 0 n)) (own k lt);
  joined = λ e lt. absurd (omega (arith, lt));
}
  where
    own : (k : ℕ) → k < n → slice_index (range_with_len 0 n) k ≡ k
    own k lt = get_or-range_with_len 0 n k 0 lt ∙ (let e : 0 + k ≡ k = omega arith in e)

united_at : (a b : ℕ) (numbers : List ℕ) (k : ℕ) → k < length numbers → slice_index (united_parts a b numbers) k ≡ after a b (slice_index numbers k)
united_at a b numbers k lt = get_or-map (after a b) numbers k 0 0 lt

one_dart_more : (ends : List ℕ) (n : ℕ) → RunBetween ends n → (d : ℕ) → d < length ends → (numbers : List ℕ) → IsNumbering ends n d numbers
    → IsNumbering ends n (suc d) (united_parts (slice_index numbers (d / 4)) (slice_index numbers (slice_index ends d / 4)) numbers)
one_dart_more ends n run d lt numbers old = record {
  long = length-map numbers (after a b) ∙ old.long;
  least = λ k within.
      let at = index k within in
      let smaller = after_le a b (slice_index numbers k) in
      let before = old.least k within in
      omega (arith, at, smaller, before);
  fixed = λ k within. fixed_at k within (cases_eq (slice_index numbers k) (max a b));
  joined = λ e below. elim (cases_eq e d) [
    | inl is ↦ subst (λ (s : ℕ). slice_index new (s / 4) ≡ slice_index new (slice_index ends s / 4)) (sym is)
        (index (d / 4) inside.0 ∙ (both.0 ∙ (sym both.1 ∙ sym (index (slice_index ends d / 4) inside.1))))
    | inr ne ↦
        let within = run e (omega (arith, ne, below, lt)) in
        index (e / 4) within.0 ∙ (ap (after a b) (old.joined e (omega (arith, ne, below))) ∙ sym (index (slice_index ends e / 4) within.1))
  ];
}
  where
    a : ℕ
    a = slice_index numbers (d / 4)

    b : ℕ
    b = slice_index numbers (slice_index ends d / 4)

    new : List ℕ
    new = united_parts a b numbers

    inside : (d / 4 < n) × (slice_index ends d / 4 < n)
    inside = run d lt

    both : (after a b a ≡ min a b) × (after a b b ≡ min a b)
    both = after_both a b

    index : (k : ℕ) → k < n → slice_index new k ≡ after a b (slice_index numbers k)
    index k within = united_at a b numbers k (omega (arith, within, old.long))

    -- the lesser is the number of one of the two, and so its own
    low_own : (slice_index numbers (min a b) ≡ min a b) × (min a b < n)
    low_own = elim (the_two a b) [
      | inl is ↦
          let le = old.least (d / 4) inside.0 in
          (ap (slice_index numbers) is.0 ∙ (old.fixed (d / 4) inside.0 ∙ sym is.0), omega (arith, is.0, le, inside.0))
      | inr is ↦
          let le = old.least (slice_index ends d / 4) inside.1 in
          (ap (slice_index numbers) is.0 ∙ (old.fixed (slice_index ends d / 4) inside.1 ∙ sym is.0), omega (arith, is.0, le, inside.1))
    ]

    low_stays : slice_index new (min a b) ≡ min a b
    low_stays = index (min a b) low_own.1 ∙ (ap (after a b) low_own.0 ∙ after_lesser a b)

    fixed_at : (k : ℕ) → k < n → (slice_index numbers k ≡ max a b) ⊎ (slice_index numbers k ≡ max a b → ⊥)
        → slice_index new (slice_index new k) ≡ slice_index new k
    fixed_at k within cases = elim cases [
      | inl is ↦
          let e : slice_index new k ≡ min a b = index k within ∙ after_greater a b (slice_index numbers k) is in
          ap (slice_index new) e ∙ (low_stays ∙ sym e)
      | inr ne ↦
          let e : slice_index new k ≡ slice_index numbers k = index k within ∙ after_other a b (slice_index numbers k) ne in
          let le = old.least k within in
          ap (slice_index new) e ∙ (index (slice_index numbers k) (omega (arith, le, within))
          ∙ (ap (after a b) (old.fixed k within) ∙ (after_other a b (slice_index numbers k) ne ∙ sym e)))
    ]

numbering : (ends : List ℕ) (n : ℕ) → RunBetween ends n → (d : ℕ) → d ≤ length ends → IsNumbering ends n d (parts_below ends n d)
numbering ends n run zero le = at_first ends n
numbering ends n run (suc d) le = one_dart_more ends n run d (omega arith) (parts_below ends n d) (numbering ends n run d (omega arith))

abbrev pub number : List ℕ → ℕ → ℕ → ℕ
number ends n k = slice_index (parts_below ends n (length ends)) k

pub number_le : (ends : List ℕ) (n : ℕ) → RunBetween ends n → (k : ℕ) → k < n → number ends n k ≤ k
number_le ends n run k lt = (numbering ends n run (length ends) (omega arith)).least k lt

pub number_joined : (ends : List ℕ) (n : ℕ) → RunBetween ends n → (d : ℕ) → d < length ends → number ends n (d / 4) ≡ number ends n (slice_index ends d / 4)
number_joined ends n run d lt = (numbering ends n run (length ends) (omega arith)).joined d lt

-- an equivalence of crossings that joins the two ends of each dart
pub record JoinsDarts (ends : List ℕ) (n : ℕ) (R : ℕ → ℕ → Type 0) : Type 0 where
  pub same : (k : ℕ) → k < n → R k k
  pub back : (j k : ℕ) → R j k → R k j
  pub onward : (i j k : ℕ) → R i j → R j k → R i k
  pub darts : (d : ℕ) → d < length ends → R (d / 4) (slice_index ends d / 4)

-- it joins the lesser to the greater of the two numbers that become one
joined_numbers : (ends : List ℕ) (n : ℕ) (R : ℕ → ℕ → Type 0) → RunBetween ends n → JoinsDarts ends n R → (d : ℕ) → d < length ends → (numbers : List ℕ)
    → ((k : ℕ) → k < n → R (slice_index numbers k) k)
    → R (min (slice_index numbers (d / 4)) (slice_index numbers (slice_index ends d / 4)))
    (max (slice_index numbers (d / 4)) (slice_index numbers (slice_index ends d / 4)))
joined_numbers ends n R run joins d lt numbers old =
    let inside = run d lt in
    let there = slice_index ends d / 4 in
    let a = slice_index numbers (d / 4) in
    let b = slice_index numbers there in
    let forth : R a b =
    joins.onward a (d / 4) b (old (d / 4) inside.0) (joins.onward (d / 4) there b (joins.darts d lt) (joins.back b there (old there inside.1))) in
    elim (the_two a b) [
      | inl is ↦ subst (λ (i : ℕ). R i (max a b)) (sym is.0) (subst (R a) (sym is.1) forth)
      | inr is ↦ subst (λ (i : ℕ). R i (max a b)) (sym is.0) (subst (R b) (sym is.1) (joins.back a b forth))
    ]

related_below : (ends : List ℕ) (n : ℕ) (R : ℕ → ℕ → Type 0) → RunBetween ends n → JoinsDarts ends n R → (d : ℕ) → d ≤ length ends → (k : ℕ) → k < n
    → R (slice_index (parts_below ends n d) k) k
related_below ends n R run joins zero le k lt =
    subst (λ (i : ℕ). R i k) (sym (get_or-range_with_len 0 n k 0 lt ∙ (let e : 0 + k ≡ k = omega arith in e))) (joins.same k lt)
related_below ends n R run joins (suc d) le k lt =
    let old = λ (i : ℕ) (within : i < n). related_below ends n R run joins d (omega arith) i within in
    let numbers = parts_below ends n d in
    let long = (numbering ends n run d (omega arith)).long in
    let a = slice_index numbers (d / 4) in
    let b = slice_index numbers (slice_index ends d / 4) in
    let at = united_at a b numbers k (omega (arith, lt, long)) in
    elim (cases_eq (slice_index numbers k) (max a b)) [
      | inl is ↦ subst (λ (i : ℕ). R i k) (sym (at ∙ after_greater a b (slice_index numbers k) is))
          (joins.onward (min a b) (max a b) k (joined_numbers ends n R run joins d (omega arith) numbers old)
          (subst (λ (i : ℕ). R i k) is (old k lt)))
      | inr ne ↦ subst (λ (i : ℕ). R i k) (sym (at ∙ after_other a b (slice_index numbers k) ne)) (old k lt)
    ]

-- every such equivalence joins a crossing to its number
pub related : (ends : List ℕ) (n : ℕ) (R : ℕ → ℕ → Type 0) → RunBetween ends n → JoinsDarts ends n R → (k : ℕ) → k < n → R (number ends n k) k
related ends n R run joins k lt = related_below ends n R run joins (length ends) (omega arith) k lt
