-- Numbering the crossings row by row in a table by cell.
use Rattle.std.proofs.Common.{◌≡◌, ◌<◌, ◌≤◌, ◌+◌, ◌-◌, ◌*◌, ◌++◌, ◌∙◌, ◌∷◌, [], inl, inr, ℕ, Bool, true, false, List, length, map, get_or}
use Rattle.std.proofs.Common.{set, refl, sym, ap, subst, arith, ◌==◌, ◌&&◌, append-nil, get_or-set_same, get_or-set_other}
use Rattle.std.specs.List.{range_with_len, flat_map}
use Rattle.std.proofs.lemmas.Bool.{cases_lt, eqb-true, eq-eqb, and_parts, and_from, false_from_ne_true}
use Rattle.std.proofs.lemmas.List.{length-append, get_or_append_left, get_or_push}
use Rattle.std.proofs.lemmas.List.Concat.{flat_map-append}
use Rattle.std.proofs.lemmas.List.Sums.{position_or_len_is}
use Rattle.grid_core.specs.declared.grid.TheConstants.{MAX_SIZE}
use Rattle.grid_core.specs.Diagram.{Diagram, IsGrid, size}
use Rattle.grid_core.specs.Parts.{covers, ends}
use Rattle.colour_rows.specs.Walk.{passed}
use Rattle.colour_rows.proofs.Ranges.{range_longer}
use Rattle.crossing_codes.specs.declared.passages.Passage.{Passage}
use Rattle.crossing_codes.specs.Passages.{Crossed, crossings, passages}
use Rattle.crossing_codes.specs.Printed.{crossing_number}
use Rattle.crossing_codes.specs.Layout.{cell_place, crossings_below, IsNumbered, HasCrossingNumber}
use Rattle.crossing_codes.proofs.Members.{Has, has_at, has_either, place_in, one_place, of_flat_map, of_map, of_range}
use Rattle.crossing_codes.proofs.Crossings.{crossing_in_row, column_inside, has_crossing, crossings_apart}
use Rattle.crossing_codes.proofs.AllPassages.{passage_at}
use Rattle.crossing_codes.proofs.FollowSteps.{met, met_yes, met_no, met_begins, met_ends}

abbrev pub crossed : ℕ → ℕ → Crossed
crossed c r = record { column = c; row = r }

-- all cells of the list lie before a place of the table
abbrev pub LieBefore : ℕ → List Crossed → Type 0
LieBefore n cells = (at : Crossed) → Has cells at → cell_place at.column at.row < n

-- the crossings of the rows below, and of row r up to before column c
abbrev pub up_to : Diagram → ℕ → ℕ → List Crossed
up_to d r c = crossings_below d r ++ map (λ b. crossed b r) (met true (λ b. covers d b r) (ends d r) (c - (ends d r).low - 1))

pub below_before : (d : Diagram) → IsGrid d → (r : ℕ) → r ≤ size d → LieBefore (r * MAX_SIZE) (crossings_below d r)
below_before d grid r most at h =
    let a = of_flat_map (λ s. map (λ k. crossed k s) (passed d s)) (range_with_len 0 r) at h in
    let k = of_map (λ c. crossed c a.0) (passed d a.0) at a.2 in
    let m = of_range 0 r a.0 a.1 in
    let inside = column_inside d grid k.0 a.0 (omega arith) (crossing_in_row d k.0 a.0 k.1) in
    let fits = grid.most in
    subst (λ (z : Crossed). cell_place z.column z.row < r * MAX_SIZE) k.2 (omega arith)

-- one cell more gets its number
pub number_more : (cells : List Crossed) (table : List ℕ) (c r n k : ℕ) → k ≡ cell_place c r → n ≡ length cells + 1 → k < length table → LieBefore k cells
    → IsNumbered cells table → IsNumbered (cells ++ crossed c r ∷ []) (set table k n)
number_more cells table c r n k is number room before so_far i at lt stands = elim (cases_lt i (length cells)) [
  | inl less ↦
      let there : get_or cells i at ≡ at = sym (get_or_append_left cells (crossed c r ∷ []) at i less) ∙ stands in
      let lower = before at (subst (λ z. Has cells z) there (has_at cells i at less)) in
      get_or-set_other table k (cell_place at.column at.row) n 0 (λ e. absurd (omega arith)) ∙ so_far i at less there
  | inr last ↦
      let e : i ≡ length cells = omega (arith, length-append cells (crossed c r ∷ [])) in
      let one : crossed c r ≡ at = sym (get_or_push cells (crossed c r) at i (sym e)) ∙ stands in
      ap (λ (z : Crossed). get_or (set table k n) (cell_place z.column z.row) 0) (sym one)
      ∙ (ap (λ (j : ℕ). get_or (set table k n) j 0) (sym is) ∙ (get_or-set_same table k n 0 room ∙ (number ∙ ap (λ (j : ℕ). j + 1) (sym e))))
]

pub before_more : (cells : List Crossed) (c r n m : ℕ) → LieBefore n cells → n ≤ cell_place c r → cell_place c r < m → LieBefore m (cells ++ crossed c r ∷ [])
before_more cells c r n m before most less at h = elim (has_either cells (crossed c r ∷ []) at h) [
  | inl left ↦ let b = before at left in omega arith
  | inr right ↦ elim right [ inl e ↦ subst (λ (z : Crossed). cell_place z.column z.row < m) e less | inr none ↦ absurd none ]
]

-- a row more
pub row_more : (d : Diagram) (r : ℕ) → crossings_below d (r + 1) ≡ crossings_below d r ++ map (λ c. crossed c r) (passed d r)
row_more d r =
    let row : ℕ → List Crossed = λ s. map (λ c. crossed c s) (passed d s) in
    let same : 0 + r ≡ r = omega arith in
    ap (flat_map row) (range_longer 0 r ∙ ap (λ (k : ℕ). range_with_len 0 r ++ k ∷ []) same)
    ∙ (flat_map-append row (range_with_len 0 r) (r ∷ []) ∙ ap (λ (xs : List Crossed). crossings_below d r ++ xs) (append-nil (row r)))

-- the number of a crossing in the list
pub crossing_number_is : (d : Diagram) (i c r : ℕ) (z : Crossed) → i < length (crossings d) → get_or (crossings d) i z ≡ crossed c r
    → crossing_number d c r ≡ i + 1
crossing_number_is d i c r z lt is =
    let test : Crossed → Bool = λ at. (at.column == c) && (at.row == r) in
    let same : (at : Crossed) → test at ≡ true → at ≡ crossed c r = λ at e. let parts = and_parts (at.column == c) (at.row == r) e in
    ap (λ (k : ℕ). crossed k at.row) (eqb-true at.column c parts.0) ∙ ap (crossed c) (eqb-true at.row r parts.1) in
    ap (λ (k : ℕ). k + 1) (position_or_len_is test (crossings d) i z (omega arith)
    (λ k less. false_from_ne_true (test (get_or (crossings d) k z)) (λ e.
    let one = one_place (crossings d) z k i (crossings_apart d) (omega arith) lt (same (get_or (crossings d) k z) e ∙ sym is) in absurd (omega arith)))
    (λ within. ap test is ∙ and_from (c == c) (r == r) (eq-eqb c c refl) (eq-eqb r r refl)))

-- so a table of all crossings has the number of each passage's
pub passage_numbered : (d : Diagram) → IsGrid d → (table : List ℕ) → IsNumbered (crossings d) table → (p : Passage) → Has (passages d) p
    → HasCrossingNumber d table p
passage_numbered d grid table numbered p h =
    let at = passage_at d grid p h in
    let x = crossed p.column p.row in
    let k = place_in (crossings d) x (has_crossing d p.column p.row at.0 at.2) in
    numbered k.0 x k.1 (k.2 x) ∙ sym (crossing_number_is d k.0 p.column p.row x k.1 (k.2 x))

-- a column more of a row, which passes over it or not
pub up_to_yes : (d : Diagram) (r c : ℕ) → (ends d r).low < c → c < (ends d r).high → covers d c r ≡ true → up_to d r (c + 1) ≡ up_to d r c ++ crossed c r ∷ []
up_to_yes d r c after before e =
    let s = ends d r in
    let done = c - s.low - 1 in
    let next : c + 1 - s.low - 1 ≡ done + 1 = omega arith in
    let within : s.low + done + 1 < s.high = omega arith in
    let is : c ≡ s.low + 1 + done = omega arith in
    ap (λ (n : ℕ). crossings_below d r ++ map (λ b. crossed b r) (met true (λ b. covers d b r) s n)) next
    ∙ sym (met_yes (λ b. crossed b r) true (λ b. covers d b r) s done c (crossings_below d r) (up_to d r c)
    (up_to d r c ++ crossed c r ∷ []) within is e refl refl)

pub up_to_no : (d : Diagram) (r c : ℕ) → (ends d r).low < c → c < (ends d r).high → covers d c r ≡ false → up_to d r (c + 1) ≡ up_to d r c
up_to_no d r c after before e =
    let s = ends d r in
    let done = c - s.low - 1 in
    let next : c + 1 - s.low - 1 ≡ done + 1 = omega arith in
    let within : s.low + done + 1 < s.high = omega arith in
    let is : c ≡ s.low + 1 + done = omega arith in
    ap (λ (n : ℕ). crossings_below d r ++ map (λ b. crossed b r) (met true (λ b. covers d b r) s n)) next
    ∙ sym (met_no (λ b. crossed b r) true (λ b. covers d b r) s done c (crossings_below d r) (up_to d r c) within is e refl)

-- none of the row, and the whole row
pub up_to_none : (d : Diagram) (r c : ℕ) → c ≡ (ends d r).low + 1 → up_to d r c ≡ crossings_below d r
up_to_none d r c e =
    let none : c - (ends d r).low - 1 ≡ 0 = omega arith in
    sym (met_begins (λ b. crossed b r) (λ b. covers d b r) (ends d r) (c - (ends d r).low - 1) (crossings_below d r) none)

pub up_to_all : (d : Diagram) (r c : ℕ) → (ends d r).low < (ends d r).high → c ≡ (ends d r).high → up_to d r c ≡ crossings_below d (r + 1)
up_to_all d r c ordered e =
    let whole : c - (ends d r).low - 1 ≡ (ends d r).high - (ends d r).low - 1 = omega arith in
    met_ends (λ b. crossed b r) (λ b. covers d b r) (ends d r) (c - (ends d r).low - 1) (crossings_below d r) (up_to d r c) ordered whole refl
    ∙ sym (row_more d r)
