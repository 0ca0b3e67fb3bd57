-- Following a strand from column to column: it is back after at most as many columns as there are.
use Rattle.std.proofs.Common.{◌≡◌, ◌≢◌, ◌<◌, ◌≤◌, ◌+◌, ◌-◌, ◌==◌, ◌∙◌, inl, inr, ℕ, zero, suc, Bool, not, map, get_or, sym, ap, subst, arith}
use Rattle.std.specs.List.{range_with_len, position_or_len}
use Rattle.std.proofs.lemmas.Bool.{cases_lt, cases_order, eqb-true, eqb-false}
use Rattle.std.proofs.lemmas.List.FromFn.{length-range_with_len, get_or-range_with_len, length-map-range_with_len}
use Rattle.std.proofs.lemmas.List.Sums.{prefix_len-le-length, fails_before_first, passes_at_first}
use Rattle.grid_core.specs.declared.mark.Kind.TheVariants.{Cross, Ring}
use Rattle.grid_core.specs.Diagram.{Diagram, IsGrid, size, row_of}
use Rattle.grid_core.proofs.Marks.{row_below, row_once, column_mark}
use Rattle.crossing_codes.specs.Components.{next_column, column_after, round_length}
use Rattle.crossing_codes.proofs.Members.{Apart, apart_map, apart_range, of_map, of_range, has_range, fewer}

pub next_below : (d : Diagram) → IsGrid d → (c : ℕ) → c < size d → next_column d c < size d
next_below d grid c lt = (column_mark d grid Cross (row_of Ring d c) (row_below d grid Ring c lt)).inside

pub next_once : (d : Diagram) → IsGrid d → (b c : ℕ) → b < size d → c < size d → next_column d b ≡ next_column d c → b ≡ c
next_once d grid b c hb hc e =
    let at_b = column_mark d grid Cross (row_of Ring d b) (row_below d grid Ring b hb) in
    let at_c = column_mark d grid Cross (row_of Ring d c) (row_below d grid Ring c hc) in
    row_once d grid Ring b c hb hc (sym at_b.row ∙ (ap (row_of Cross d) e ∙ at_c.row))

pub after_below : (d : Diagram) → IsGrid d → (k c : ℕ) → c < size d → column_after d k c < size d
after_below d grid zero c lt = lt
after_below d grid (suc k) c lt = next_below d grid (column_after d k c) (after_below d grid k c lt)

pub after_add : (d : Diagram) (j k c : ℕ) → column_after d (j + k) c ≡ column_after d j (column_after d k c)
after_add d zero k c = let e : zero + k ≡ k = omega arith in ap (λ i. column_after d i c) e
after_add d (suc j) k c = let e : suc j + k ≡ suc (j + k) = omega arith in ap (λ i. column_after d i c) e ∙ ap (next_column d) (after_add d j k c)

pub after_once : (d : Diagram) → IsGrid d → (k b c : ℕ) → b < size d → c < size d → column_after d k b ≡ column_after d k c → b ≡ c
after_once d grid zero b c hb hc e = e
after_once d grid (suc k) b c hb hc e =
    after_once d grid k b c hb hc (next_once d grid (column_after d k b) (column_after d k c) (after_below d grid k b hb) (after_below d grid k c hc) e)

-- the strand that is in one column twice was back in between
pub back_between : (d : Diagram) → IsGrid d → (i j c : ℕ) → i < j → c < size d → column_after d i c ≡ column_after d j c → column_after d (j - i) c ≡ c
back_between d grid i j c less lt e =
    after_once d grid i (column_after d (j - i) c) c (after_below d grid (j - i) c lt) lt
    (let whole : i + (j - i) ≡ j = omega arith in sym (after_add d i (j - i) c) ∙ (ap (λ k. column_after d k c) whole ∙ sym e))

-- while it was not back, it was in no column twice
pub apart_until : (d : Diagram) → IsGrid d → (n c : ℕ) → c < size d → ((k : ℕ) → k + 1 < n → column_after d (k + 1) c ≢ c)
    → Apart (map (λ k. column_after d k c) (range_with_len 0 n))
apart_until d grid n c lt away =
    apart_map (λ k. column_after d k c) (range_with_len 0 n)
    (λ i j hi hj e. elim (cases_order i j) [
      | inl same ↦ same
      | inr other ↦ elim other [
        | inl less ↦
            absurd (away (j - i - 1) (let m = of_range 0 n j hj in omega arith)
            (let one : j - i - 1 + 1 ≡ j - i = omega arith in ap (λ k. column_after d k c) one ∙ back_between d grid i j c less lt e))
        | inr more ↦
            absurd (away (i - j - 1) (let m = of_range 0 n i hi in omega arith)
            (let one : i - j - 1 + 1 ≡ i - j = omega arith in ap (λ k. column_after d k c) one ∙ back_between d grid j i c more lt (sym e)))
      ]
    ])
    (apart_range 0 n)

abbrev is_back : Diagram → ℕ → ℕ → Bool
is_back d c k = column_after d (k + 1) c == c

-- the place of the first return
abbrev returns : Diagram → ℕ → ℕ
returns d c = position_or_len (is_back d c) (range_with_len 0 (size d))

in_range : (n k : ℕ) → k < n → get_or (range_with_len 0 n) k 0 ≡ k
in_range n k lt = get_or-range_with_len 0 n k 0 lt ∙ omega arith

not_before : (d : Diagram) (c k : ℕ) → k < returns d c → column_after d (k + 1) c ≢ c
not_before d c k lt =
    let n = length-range_with_len 0 (size d) in
    let short = prefix_len-le-length (λ i. not (is_back d c i)) (range_with_len 0 (size d)) in
    let within : k < size d = omega (arith, n, short, lt) in
    eqb-false (column_after d (k + 1) c) c
    (ap (is_back d c) (sym (in_range (size d) k within)) ∙ fails_before_first (is_back d c) (range_with_len 0 (size d)) k 0 lt)

returns_below : (d : Diagram) → IsGrid d → (c : ℕ) → c < size d → returns d c < size d
returns_below d grid c lt = elim (cases_lt (returns d c) (size d)) [
  | inl below ↦ below
  | inr none ↦ absurd (let few = fewer (map (λ k. column_after d k c) (range_with_len 0 (suc (size d)))) (range_with_len 0 (size d))
      (apart_until d grid (suc (size d)) c lt (λ k most. not_before d c k (omega arith)))
      (λ x h. let r = of_map (λ k. column_after d k c) (range_with_len 0 (suc (size d))) x h in
      has_range 0 (size d) x (omega arith) (subst (λ z. z < 0 + size d) r.2 (let b = after_below d grid r.0 c lt in omega arith)))
      in omega (arith, few, length-map-range_with_len (λ k. column_after d k c) 0 (suc (size d)), length-range_with_len 0 (size d)))
]

-- the length of a round: it leads back, for the first time, after at most as many columns as there are
pub record IsRound (d : Diagram) (c n : ℕ) : Type 0 where
  pub some : 0 < n
  pub most : n ≤ size d
  pub back : column_after d n c ≡ c
  pub first : (k : ℕ) → k + 1 < n → column_after d (k + 1) c ≢ c

pub round_is : (d : Diagram) → IsGrid d → (c : ℕ) → c < size d → IsRound d c (round_length d c)
round_is d grid c lt =
    let below = returns_below d grid c lt in
    record {
      some = omega arith;
      most = omega arith;
      back = eqb-true (column_after d (returns d c + 1) c) c
          (ap (is_back d c) (sym (in_range (size d) (returns d c) below))
          ∙ passes_at_first (is_back d c) (range_with_len 0 (size d)) 0 (omega (arith, length-range_with_len 0 (size d), below)));
      first = λ k less. not_before d c k (omega arith);
    }
