-- Lists without a fault are a grid, and a grid has none.
use Rattle.std.proofs.Common.{◌≡◌, ◌≢◌, ◌<◌, ◌≤◌, ◌∙◌, ◌==◌, ◌||◌, ◌&&◌, ℕ, List, Bool, true, false, not, cond, Option, Some, None, length, get_or, take}
use Rattle.std.proofs.Common.{slice_index, nat_lt, nat_le, arith, sym, refl, ap, ap₂, inl, inr, zero-add}
use Rattle.std.specs.List.{range_with_len, position_or_len}
use Rattle.std.proofs.lemmas.Bool.{lt-ltb, le-ltb, ltb-false, cases_order, leb-false, eqb-false, eqb-true, leb-true, ne_eqb, lt-leb, le-leb, eq-eqb, or_parts}
use Rattle.std.proofs.lemmas.Bool.{or_from, not-false, and_parts, cond-false}
use Rattle.std.proofs.lemmas.List.{get_or-take, length-take, get_or_default}
use Rattle.std.proofs.lemmas.List.Folds.{list_any_none, list_any_at}
use Rattle.std.proofs.lemmas.List.FromFn.{get_or-range_with_len, length-range_with_len}
use Rattle.std.proofs.lemmas.List.Sums.{position_or_len_is, fails_before_first}
use Rattle.grid_core.specs.declared.grid.TheConstants.{MAX_SIZE}
use Rattle.grid_core.specs.declared.mark.Kind.{Kind}
use Rattle.grid_core.specs.declared.mark.Kind.TheVariants.{Cross, Ring}
use Rattle.grid_core.specs.declared.fault.GridFault.TheVariants.{Size, Length, Range, Repeat, Same}
use Rattle.grid_core.specs.Diagram.{Diagram, IsGrid, size, row_of}
use Rattle.grid_core.specs.Fault.{lowest, or_next, is_outside, is_repeated, first_grid_fault}
use Rattle.grid_core.proofs.Marks.{grid_from_rows, no_cell_twice, row_below, row_once}

-- the lowest column that passes
pub lowest_some : (test : ℕ → Bool) (n c : ℕ) → c < n → ((k : ℕ) → k < c → test k ≡ false) → test c ≡ true → lowest test n ≡ Some c
lowest_some test n c lt before here =
    let place = position_or_len_is test (range_with_len 0 n) c 0 (omega (arith, length-range_with_len 0 n, lt))
    (λ k low. ap test (get_or-range_with_len 0 n k 0 (omega (arith, low, lt)) ∙ zero-add k) ∙ before k low)
    (λ low. ap test (get_or-range_with_len 0 n c 0 lt ∙ zero-add c) ∙ here) in
    ap (λ (z : ℕ). cond (nat_lt z (length (range_with_len 0 n))) (Some z) None) place
    ∙ ap (λ b. cond b (Some c) None) (lt-ltb c (length (range_with_len 0 n)) (omega (arith, length-range_with_len 0 n, lt)))

pub lowest_none : (test : ℕ → Bool) (n : ℕ) → ((k : ℕ) → k < n → test k ≡ false) → lowest test n ≡ None
lowest_none test n none =
    let size = length-range_with_len 0 n in
    let place = position_or_len_is test (range_with_len 0 n) n 0 (omega (arith, size))
    (λ k low. ap test (get_or-range_with_len 0 n k 0 low ∙ zero-add k) ∙ none k low)
    (λ low. absurd (omega (arith, size, low))) in
    ap (λ (z : ℕ). cond (nat_lt z (length (range_with_len 0 n))) (Some z) None) place
    ∙ ap (λ b. cond b (Some n) None) (le-ltb n (length (range_with_len 0 n)) (omega (arith, size)))

pub cond_none : (b : Bool) (c : ℕ) → cond b (Some c) None ≡ None → b ≡ false
cond_none false c e = refl
cond_none true c e = absurd (let no : ◌≡◌ {A = Option ℕ} (Some c) None = e in cc)

pub none_lowest : (test : ℕ → Bool) (n : ℕ) → lowest test n ≡ None → (k : ℕ) → k < n → test k ≡ false
none_lowest test n e k lt =
    let size = length-range_with_len 0 n in
    let past : length (range_with_len 0 n) ≤ position_or_len test (range_with_len 0 n) =
    ltb-false (position_or_len test (range_with_len 0 n)) (length (range_with_len 0 n))
    (cond_none (nat_lt (position_or_len test (range_with_len 0 n)) (length (range_with_len 0 n))) (position_or_len test (range_with_len 0 n)) e) in
    sym (ap test (get_or-range_with_len 0 n k 0 lt ∙ zero-add k)) ∙ fails_before_first test (range_with_len 0 n) k 0 (omega (arith, size, past, lt))

-- a row that is not repeated differs from those before it
pub earlier : (rows : List ℕ) (b c : ℕ) → c < length rows → is_repeated rows c ≡ false → b < c → get_or rows b 0 ≢ get_or rows c 0
earlier rows b c lt none low e =
    let at : get_or (take c rows) b 0 ≡ get_or rows b 0 = get_or-take c rows b 0 low in
    let found =
    list_any_at (λ r. r == get_or rows c 0) (take c rows) b 0 (omega (arith, length-take c rows, low, lt))
    (eq-eqb (get_or (take c rows) b 0) (get_or rows c 0) (at ∙ e)) in
    absurd (let no : ◌≡◌ {A = Bool} true false = sym found ∙ none in cc)

not_earlier : (rows : List ℕ) (c : ℕ) → c < length rows → ((b : ℕ) → b < c → get_or rows b 0 ≢ get_or rows c 0) → is_repeated rows c ≡ false
not_earlier rows c lt apart =
    list_any_none (λ r. r == get_or rows c 0) (take c rows) (λ k d low.
    let within : k < c = omega (arith, length-take c rows, low) in
    ne_eqb (get_or (take c rows) k d) (get_or rows c 0)
    (λ e. apart k within (sym (get_or-take c rows k d within ∙ get_or_default rows k d 0 (omega (arith, within, lt))) ∙ e)))

-- what the tests let through is a grid
pub accepted : (x o : List ℕ) → 2 ≤ length x → length x ≤ MAX_SIZE → length o ≡ length x → lowest (λ c. is_outside x o c) (length x) ≡ None
    → lowest (λ c. is_repeated x c || is_repeated o c) (length x) ≡ None → lowest (λ c. slice_index x c == slice_index o c) (length x) ≡ None
    → IsGrid (record { x = x; o = o })
accepted x o least most same outside repeated cell =
    let out : (c : ℕ) → c < length x → is_outside x o c ≡ false = none_lowest (λ c. is_outside x o c) (length x) outside in
    let once : (c : ℕ) → c < length x → (is_repeated x c || is_repeated o c) ≡ false =
    none_lowest (λ c. is_repeated x c || is_repeated o c) (length x) repeated in
    let two : (c : ℕ) → c < length x → (slice_index x c == slice_index o c) ≡ false = none_lowest (λ c. slice_index x c == slice_index o c) (length x) cell in
    grid_from_rows (record { x = x; o = o }) least most same (λ kind c lt. below kind c lt (out c lt))
    (λ kind b c hb hc e. apart kind b c hb hc e (once b hb) (once c hc)) (λ c lt. eqb-false (slice_index x c) (slice_index o c) (two c lt))
  where
    below : (kind : Kind) (c : ℕ) → c < length x → is_outside x o c ≡ false → row_of kind (record { x = x; o = o }) c < length x
    below Cross c lt e = leb-false (length x) (slice_index x c) (or_parts (nat_le (length x) (slice_index x c)) (nat_le (length x) (slice_index o c)) e).0
    below Ring c lt e = leb-false (length x) (slice_index o c) (or_parts (nat_le (length x) (slice_index x c)) (nat_le (length x) (slice_index o c)) e).1

    apart_in : (rows : List ℕ) (b c : ℕ) → b < length rows → c < length rows → get_or rows b 0 ≡ get_or rows c 0 → is_repeated rows b ≡ false
        → is_repeated rows c ≡ false → b ≡ c
    apart_in rows b c hb hc e nb nc = elim (cases_order b c) [
      | inl is ↦ is
      | inr other ↦ elim other [
        | inl low ↦ absurd (earlier rows b c hc nc low e)
        | inr high ↦ absurd (earlier rows c b hb nb high (sym e))
      ]
    ]

    apart : (kind : Kind) (b c : ℕ) → b < length x → c < length x → row_of kind (record { x = x; o = o }) b ≡ row_of kind (record { x = x; o = o }) c
        → (is_repeated x b || is_repeated o b) ≡ false → (is_repeated x c || is_repeated o c) ≡ false → b ≡ c
    apart Cross b c hb hc e nb nc =
        apart_in x b c hb hc e (or_parts (is_repeated x b) (is_repeated o b) nb).0 (or_parts (is_repeated x c) (is_repeated o c) nc).0
    apart Ring b c hb hc e nb nc =
        apart_in o b c (omega (arith, same, hb)) (omega (arith, same, hc)) e (or_parts (is_repeated x b) (is_repeated o b) nb).1
        (or_parts (is_repeated x c) (is_repeated o c) nc).1

-- where a chain of faults has none, neither has its first link
pub cond_passed : {A : Type 0} (b : Bool) (fault : A) (rest : Option A) → cond b (Some fault) rest ≡ None → (b ≡ false) × (rest ≡ None)
cond_passed false fault rest e = (refl, e)
cond_passed true fault rest e = absurd (cc)

pub next_passed : {A : Type 0} (o : Option ℕ) (fault : ℕ → A) (rest : Option A) → or_next o fault rest ≡ None → (o ≡ None) × (rest ≡ None)
next_passed None fault rest e = (refl, e)
next_passed (Some place) fault rest e = absurd (cc)

pub none_left : (o : Option ℕ) → ((place : ℕ) → o ≡ Some place → ⊥) → o ≡ None
none_left None no_some = refl
none_left (Some place) no_some = absurd (no_some place refl)

-- lists without a fault are a grid
pub accepted_lists : (x o : List ℕ) → first_grid_fault x o ≡ None → IsGrid (record { x = x; o = o })
accepted_lists x o e =
    let n : ℕ = length x in
    let size = cond_passed (not (nat_le 2 n && nat_le n MAX_SIZE)) Size _ e in
    let bounds = and_parts (nat_le 2 n) (nat_le n MAX_SIZE) (not-false (nat_le 2 n && nat_le n MAX_SIZE) size.0) in
    let same = cond_passed (not (length o == n)) Length _ size.1 in
    let outside = next_passed (lowest (λ c. is_outside x o c) n) (λ c. Range c) _ same.1 in
    let repeated = next_passed (lowest (λ c. is_repeated x c || is_repeated o c) n) (λ c. Repeat c) _ outside.1 in
    let cell = next_passed (lowest (λ c. slice_index x c == slice_index o c) n) (λ c. Same c) None repeated.1 in
    accepted x o (leb-true 2 n bounds.0) (leb-true n MAX_SIZE bounds.1) (eqb-true (length o) n (not-false (length o == n) same.0)) outside.0 repeated.0 cell.0

-- and a grid passes them
pub faultless : (d : Diagram) → IsGrid d → first_grid_fault d.x d.o ≡ None
faultless d grid =
    let n : ℕ = size d in
    cond-false (not (nat_le 2 n && nat_le n MAX_SIZE)) (Some Size) _ (ap₂ (λ a b. not (a && b)) (le-leb 2 n grid.least) (le-leb n MAX_SIZE grid.most))
    ∙ cond-false (not (length d.o == n)) (Some Length) _ (ap (λ b. not b) (eq-eqb (length d.o) n grid.same))
    ∙ ap (λ p. or_next p (λ c. Range c)
    (or_next (lowest (λ c. is_repeated d.x c || is_repeated d.o c) n) (λ c. Repeat c)
    (or_next (lowest (λ c. slice_index d.x c == slice_index d.o c) n) (λ c. Same c) None)))
    (lowest_none (λ c. is_outside d.x d.o c) n
    (λ c lt. or_from (nat_le n (slice_index d.x c)) (nat_le n (slice_index d.o c)) (lt-leb n (slice_index d.x c) (row_below d grid Cross c lt))
    (lt-leb n (slice_index d.o c) (row_below d grid Ring c lt))))
    ∙ ap (λ p. or_next p (λ c. Repeat c) (or_next (lowest (λ c. slice_index d.x c == slice_index d.o c) n) (λ c. Same c) None))
    (lowest_none (λ c. is_repeated d.x c || is_repeated d.o c) n
    (λ c lt. or_from (is_repeated d.x c) (is_repeated d.o c)
    (not_earlier d.x c lt (λ b low e. absurd (omega (arith, low, row_once d grid Cross b c (omega arith) lt e))))
    (not_earlier d.o c (omega (arith, grid.same, lt)) (λ b low e. absurd (omega (arith, low, row_once d grid Ring b c (omega arith) lt e))))))
    ∙ ap (λ p. or_next p (λ c. Same c) None)
    (lowest_none (λ c. slice_index d.x c == slice_index d.o c) n (λ c lt. ne_eqb (slice_index d.x c) (slice_index d.o c) (no_cell_twice d grid c lt)))
