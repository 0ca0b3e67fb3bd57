-- The sweep from the lowest row upward: each row carries the level below it to the level above.
use Rattle.std.proofs.Common.{◌≡◌, ◌≢◌, ◌<◌, ◌≤◌, ◌+◌, ◌==◌, ◌∙◌, inl, inr, ℕ, List, [], ◌∷◌, Bool, true, false, cond, replicate, refl, sym, ap, subst, arith}
use Rattle.std.specs.Prelude.{if◌then◌else◌, IsPermutation}
use Rattle.std.specs.List.{flat_map, filter}
use Rattle.std.proofs.lemmas.Bool.{eqb-true, eqb-false, cases_eq}
use Rattle.std.proofs.lemmas.List.{length-replicate, get_or-replicate}
use Rattle.std.proofs.lemmas.Grind.{same_number_lists}
use Rattle.std.proofs.lemmas.List.Elements.{All-cons, All-nil, All-replicate}
use Rattle.std.proofs.lemmas.List.Sorted.{All-permutation, sum_by-IsPermutation}
use Rattle.grid_core.specs.declared.grid.TheConstants.{MAX_SIZE}
use Rattle.grid_core.specs.Diagram.{Diagram, IsGrid, size}
use Rattle.quandle_core.specs.Quandle.{Table, IsQuandle}
use Rattle.colour_rows.specs.Walk.{closes}
use Rattle.grid_core.proofs.Ends.{has_ends, left, right, low}
use Rattle.colour_rows.proofs.Walks.{closes_ignores}
use Rattle.colour_list.specs.Listing.{is_same, times}
use Rattle.colour_list.specs.Level.{spread, Meets, IsLevel, IsUnbegun, RowsClose, IsLevelAt}
use Rattle.colour_list.proofs.Columns.{Ignores, open_level, read_level}
use Rattle.colour_list.proofs.Order.{times_here}

-- column c takes each colour where its lower mark stands in row r
abbrev pub opened : Diagram → ℕ → ℕ → ℕ → List (List ℕ) → List (List ℕ)
opened d q r c level = if low d c == r then flat_map (spread q c) level else level

-- the level behind row r
abbrev pub row_step : Table → Diagram → ℕ → List (List ℕ) → List (List ℕ)
row_step t d r level = filter (λ f. closes t d f r) (opened d t.order r (right d r) (opened d t.order r (left d r) level))

same_blanks : (n q : ℕ) (IsBlank IsLater : ℕ → Type 0) (IsMet : List ℕ → Type 0) (level : List (List ℕ)) → ((c : ℕ) → c < n → IsLater c → IsBlank c)
    → ((c : ℕ) → c < n → IsBlank c → IsLater c) → IsLevel n q IsBlank IsMet level → IsLevel n q IsLater IsMet level
same_blanks n q IsBlank IsLater IsMet level was is l = record {
  sound = λ k d lt. let m = l.sound k d lt in record { long = m.long; below = m.below; blank = λ c at later. m.blank c at (was c at later); met = m.met };
  once = λ g m. l.once g (record { long = m.long; below = m.below; blank = λ c at blank. m.blank c at (is c at blank); met = m.met });
}

open_at : (d : Diagram) (n q r c : ℕ) (IsBlank : ℕ → Type 0) (IsMet : List ℕ → Type 0) (level : List (List ℕ)) → 0 < q → c < n → (low d c ≡ r → IsBlank c)
    → (IsBlank c → low d c ≡ r) → (low d c ≡ r → Ignores n c IsMet) → IsLevel n q IsBlank IsMet level → (t : Bool) → (low d c == r) ≡ t
    → IsLevel n q (λ x. IsBlank x × (x ≢ c)) IsMet (if t then flat_map (spread q c) level else level)
open_at d n q r c IsBlank IsMet level some at begins begun ignores l true e =
    let here = eqb-true (low d c) r e in
    open_level n q c IsBlank (λ x. IsBlank x × (x ≢ c)) IsMet level some at
    (record { was = begins here; others = λ x b. elim (cases_eq x c) [ inl same ↦ inl same | inr other ↦ inr (b, other) ]; stays = λ x h. h })
    (ignores here) l
open_at d n q r c IsBlank IsMet level some at begins begun ignores l false e =
    same_blanks n q IsBlank (λ x. IsBlank x × (x ≢ c)) IsMet level (λ x within h. h.0)
    (λ x within b. (b, λ same. eqb-false (low d c) r e (begun (subst IsBlank same b)))) l

rows_ignore : (t : Table) (d : Diagram) (n : ℕ) → IsGrid d → (r c : ℕ) → r < size d → low d c ≡ r → Ignores n c (RowsClose t d r)
rows_ignore t d n grid r c lt begins = λ f a long closed s below.
    closes_ignores t d r s c (has_ends d grid s (omega arith)) below (omega arith) f a ∙ closed s below

more_rows : (t : Table) (d : Diagram) (r : ℕ) (f : List ℕ) → RowsClose t d r f → closes t d f r ≡ true → RowsClose t d (r + 1) f
more_rows t d r f closed here s lt = elim (cases_eq s r) [
  | inl e ↦ subst (λ (s : ℕ). closes t d f s ≡ true) (sym e) here
  | inr other ↦ closed s (omega (arith, other))
]

-- a row carries its level to the next row's
pub row_level : (t : Table) (d : Diagram) → IsQuandle t → IsGrid d → (r : ℕ) → r < size d → (level : List (List ℕ)) → IsLevelAt t d r level
    → IsLevelAt t d (r + 1) (row_step t d r level)
row_level t d quandle grid r lt level l =
    let n = MAX_SIZE in
    let ends = has_ends d grid r lt in
    let some : 0 < t.order = omega (arith, quandle.least) in
    let ordered = ends.ordered in
    let left_low = ends.left_low in
    let right_low = ends.right_low in
    let at_left : left d r < size d = omega (arith, ends.within) in
    let at_right : right d r < size d = ends.within in
    let in_left : left d r < MAX_SIZE = omega (arith, grid.most) in
    let in_right : right d r < MAX_SIZE = omega (arith, grid.most) in
    let one = open_at d n t.order r (left d r) (IsUnbegun d r) (RowsClose t d r) level some in_left
    (λ e inside. omega arith) (λ b. let h : r ≤ low d (left d r) = b at_left in omega arith) (λ e. rows_ignore t d n grid r (left d r) lt e) l
    (low d (left d r) == r) refl in
    let two = open_at d n t.order r (right d r) (λ x. IsUnbegun d r x × (x ≢ left d r)) (RowsClose t d r) (opened d t.order r (left d r) level) some in_right
    (λ e. (λ inside. omega arith, λ same. omega arith)) (λ b. let h : r ≤ low d (right d r) = b.0 at_right in
    omega arith) (λ e. rows_ignore t d n grid r (right d r) lt e) one (low d (right d r) == r) refl in
    let three = same_blanks n t.order (λ x. (IsUnbegun d r x × (x ≢ left d r)) × (x ≢ right d r)) (IsUnbegun d (r + 1)) (RowsClose t d r)
    (opened d t.order r (right d r) (opened d t.order r (left d r) level))
    (λ c at later. (
      (
        λ inside. let h : r + 1 ≤ low d c = later inside in omega arith,
        λ same. let h = ap (low d) same in let k : r + 1 ≤ low d c = later (omega arith) in
            absurd (omega arith),
      ),
      λ same. let h = ap (low d) same in let k : r + 1 ≤ low d c = later (omega arith) in absurd (omega arith),
    ))
    (λ c at b inside. elim (cases_eq (low d c) r) [
      | inl begins ↦ elim (ends.begun c inside begins) [ inl e ↦ absurd (b.0.1 e) | inr e ↦ absurd (b.1 e) ]
      | inr other ↦ let h : r ≤ low d c = b.0.0 inside in omega (arith, other)
    ]) two in
    read_level n t.order (IsUnbegun d (r + 1)) (RowsClose t d r) (RowsClose t d (r + 1)) (λ f. closes t d f r)
    (opened d t.order r (right d r) (opened d t.order r (left d r) level))
    (λ f closed here. more_rows t d r f closed here) (λ f closed. (λ s below. closed s (omega arith), closed r (omega arith))) three

-- before the lowest row every column is 0
pub first_level : (t : Table) (d : Diagram) → 0 < t.order → IsLevelAt t d 0 (replicate MAX_SIZE 0 ∷ [])
first_level t d some = first_of t d MAX_SIZE some
  where
    first_of : (t : Table) (d : Diagram) (n : ℕ) → 0 < t.order → IsLevel n t.order (IsUnbegun d 0) (RowsClose t d 0) (replicate n 0 ∷ [])
    first_of t d n some = record {
      sound = All-cons (Meets n t.order (IsUnbegun d 0) (RowsClose t d 0)) (replicate n 0) []
          (record {
            long = length-replicate n 0;
            below = All-replicate (λ y. y < t.order) n 0 some;
            blank = λ c at begun. get_or-replicate n c 0 0 at;
            met = λ s lt. absurd (omega arith);
          })
          (All-nil (Meets n t.order (IsUnbegun d 0) (RowsClose t d 0)));
      once = λ f m.
          let e : f ≡ replicate n 0 = same_number_lists f (replicate n 0) (m.long ∙ sym (length-replicate n 0))
          (λ k lt. let at : k < n = omega (arith, m.long) in m.blank k at (λ inside. omega arith) ∙ sym (get_or-replicate n k 0 0 at)) in
          ap (λ h. times f (h ∷ [])) (sym e) ∙ times_here f [];
    }

-- the level in another order
pub level_permuted : (t : Table) (d : Diagram) (r : ℕ) (xs ys : List (List ℕ)) → IsPermutation xs ys → IsLevelAt t d r xs → IsLevelAt t d r ys
level_permuted t d r xs ys moved l = record {
  sound = All-permutation (Meets MAX_SIZE t.order (IsUnbegun d r) (RowsClose t d r)) xs ys moved l.sound;
  once = λ f m. sum_by-IsPermutation (λ x. cond (is_same f x) 1 0) xs ys moved ∙ l.once f m;
}
