-- Stabilisation and destabilisation: from the marks of the block to the lists of the laws.
use Rattle.std.proofs.Common.{◌≡◌, ◌≢◌, ◌∙◌, ◌<◌, ◌+◌, ◌-◌, ℕ, suc, length, map, ap, sym, arith, inl, inr}
use Rattle.std.specs.Prelude.{Bool, true, false, slice_index}
use Rattle.std.proofs.Common.{cond}
use Rattle.std.proofs.lemmas.List.{length-map}
use Rattle.std.proofs.lemmas.Bool.{cases_eq}
use Rattle.std.proofs.lemmas.Bool.Decides.{nat_tests}
use Rattle.grid_core.specs.declared.mark.Kind.{Kind}
use Rattle.grid_core.specs.declared.mark.Kind.TheVariants.{Cross, Ring}
use Rattle.grid_core.specs.declared.mark.Corner.{Corner}
use Rattle.grid_core.specs.declared.mark.Corner.TheVariants.{LowLeft, LowRight, HighLeft, HighRight}
use Rattle.grid_core.specs.Diagram.{Diagram, IsGrid, size, row_of, other}
use Rattle.grid_core.specs.Corners.{corner_column, corner_row as row_of_corner}
use Rattle.grid_core.specs.Places.{lifted}
use Rattle.grid_core.proofs.Marks.{row_once, no_cell_twice}
use Rattle.grid_core.proofs.Marks as marks
use Rattle.grid_moves.specs.Stabilisation.{Stabilises}
use Rattle.grid_moves.proofs.Widened.{kinds, two_kinds}
use Rattle.colour_laws.proofs.ColumnLists.{corner_row, raised}
use Rattle.colour_laws.proofs.ColouredColumns.{IsStabilised}
use Rattle.colour_laws.proofs.ByPlaces.{column_at, mark_at, block_first, block_second, with_block_crosses_at, with_block_rings_at}

-- the kind and the corner as tests
abbrev pub is_cross : Kind → Bool
is_cross Cross = true
is_cross Ring = false

abbrev pub is_right : Corner → Bool
is_right LowLeft = false
is_right LowRight = true
is_right HighLeft = false
is_right HighRight = true

abbrev pub is_high : Corner → Bool
is_high LowLeft = false
is_high LowRight = false
is_high HighLeft = true
is_high HighRight = true

-- rows of the block, and outside it
own_row : (r : ℕ) (corner : Corner) → r + 1 - row_of_corner corner ≡ raised r (is_high corner) r
own_row r LowLeft = grind (arith, nat_tests)
own_row r LowRight = grind (arith, nat_tests)
own_row r HighLeft = grind (arith, nat_tests)
own_row r HighRight = grind (arith, nat_tests)

new_row : (r : ℕ) (corner : Corner) → r + row_of_corner corner ≡ corner_row r (is_high corner)
new_row r LowLeft = omega arith
new_row r LowRight = omega arith
new_row r HighLeft = omega arith
new_row r HighRight = omega arith

other_row : (r : ℕ) (high : Bool) (s : ℕ) → s ≢ r → lifted (r + 1) s ≡ raised r high s
other_row r high s n = grind (arith, nat_tests, n)

-- the marks after a stabilisation, by their old rows
record HasBlock (kind : Kind) (corner : Corner) (r c : ℕ) (d e : Diagram) : Type 0 where
  own : row_of kind e (c + corner_column corner) ≡ raised r (is_high corner) r
  own_new : row_of kind e (c + 1 - corner_column corner) ≡ corner_row r (is_high corner)
  other_new : row_of (other kind) e (c + corner_column corner) ≡ corner_row r (is_high corner)
  far : row_of (other kind) e (c + 1 - corner_column corner) ≡ raised r (is_high corner) (row_of (other kind) d c)
  rest : (k : Kind) (b : ℕ) → b < size d → b ≢ c → row_of k e (lifted (c + 1) b) ≡ raised r (is_high corner) (row_of k d b)

has_block : (c : ℕ) (kind : Kind) (corner : Corner) (r : ℕ) (d e : Diagram) → IsGrid d → Stabilises c kind corner r d e → HasBlock kind corner r c d e
has_block c kind corner r d e grid stab =
    let lt : c < size d = stab.marked.inside in
    let differ : row_of (other kind) d c ≢ r = λ h. two_kinds d grid kind c lt (stab.marked.row ∙ sym h) in
    record {
      own = stab.in_its_column.row ∙ own_row r corner;
      own_new = stab.in_its_row.row ∙ new_row r corner;
      other_new = stab.at_corner.row ∙ new_row r corner;
      far = (stab.of_column (row_of (other kind) d c) (marks.mark_at d (other kind) c lt)).row ∙ other_row r (is_high corner) (row_of (other kind) d c) differ;
      rest = λ k b at n. elim (cases_eq (row_of k d b) r) [
        | inr m ↦ (stab.of_others k b (row_of k d b) n m (marks.mark_at d k b at)).row ∙ other_row r (is_high corner) (row_of k d b) m
        | inl h ↦ elim (kinds kind k) [
          | inl same ↦ absurd (n (row_once d grid kind b c at lt (ap (λ z. row_of z d b) (sym same) ∙ h ∙ sym stab.marked.row)))
          | inr far ↦
              ap (λ z. row_of z e (lifted (c + 1) b)) far
              ∙ (stab.of_row b (record { inside = at; row = ap (λ z. row_of z d b) (sym far) ∙ h })).row
              ∙ own_row r corner ∙ ap (raised r (is_high corner)) (sym h)
        ]
      ];
    }

-- from the rows of the block's columns to the lists
assemble : (mark right high : Bool) (r c : ℕ) (d e : Diagram) → IsGrid d → IsGrid e → size e ≡ size d + 1 → c < size d
    → cond mark (slice_index d.x c) (slice_index d.o c) ≡ r → cond mark (slice_index d.o c) (slice_index d.x c) ≢ r
    → slice_index e.x c ≡ (block_first mark right high r (column_at c d.x d.o)).x
    → slice_index e.x (suc c) ≡ (block_second mark right high r (column_at c d.x d.o)).x
    → slice_index e.o c ≡ (block_first mark right high r (column_at c d.x d.o)).o
    → slice_index e.o (suc c) ≡ (block_second mark right high r (column_at c d.x d.o)).o
    → ((k : Kind) (b : ℕ) → b < size d → b ≢ c → row_of k e (lifted (c + 1) b) ≡ raised r high (row_of k d b))
    → IsStabilised mark right high r c d e
assemble mark right high r c d e grid grid' larger lt here apart x1 x2 o1 o2 rest =
    let blank : length (map (λ (m : ℕ). 0) d.x) ≡ length d.x = length-map d.x (λ (m : ℕ). 0) in
    let low : (k : Kind) (i : ℕ) → i < c → row_of k e i ≡ raised r high (row_of k d i) =
    λ k i l. ap (row_of k e) (below c i l) ∙ rest k i (omega arith) (λ h. omega (arith, h, l)) in
    let high' : (k : Kind) (i : ℕ) → c < i → i < size d → row_of k e (suc i) ≡ raised r high (row_of k d i) =
    λ k i l at. ap (row_of k e) (above c i l) ∙ rest k i at (λ h. omega (arith, h, l)) in
    record {
      place = mark_at mark r c d.x d.o (map (λ m. 0) d.x) lt grid.same blank here apart;
      crosses =
          with_block_crosses_at mark right high r c d.x d.o (map (λ m. 0) d.x) e.x lt grid.same blank (omega (arith, larger)) x1 x2 (low Cross) (high' Cross);
      rings =
          with_block_rings_at mark right high r c d.x d.o (map (λ m. 0) d.x) e.o lt grid.same blank (omega (arith, larger, grid'.same)) o1 o2 (low Ring)
          (high' Ring);
    }
  where
    below : (c i : ℕ) → i < c → i ≡ lifted (c + 1) i
    below c i l = grind (arith, nat_tests)

    above : (c i : ℕ) → c < i → suc i ≡ lifted (c + 1) i
    above c i l = grind (arith, nat_tests)

-- a stabilisation by its marks is one by its lists
pub is_stabilised : (c : ℕ) (kind : Kind) (corner : Corner) (r : ℕ) (d e : Diagram) → IsGrid d → IsGrid e → Stabilises c kind corner r d e
    → IsStabilised (is_cross kind) (is_right corner) (is_high corner) r c d e
is_stabilised c kind corner r d e grid grid' stab =
    shape kind corner stab (has_block c kind corner r d e grid stab) (λ h. two_kinds d grid kind c stab.marked.inside (stab.marked.row ∙ sym h))
  where
    left : (k : Kind) (n : ℕ) → row_of k e (c + 0) ≡ n → row_of k e c ≡ n
    left k n h = ap (row_of k e) (let q : c ≡ c + 0 = omega arith in q) ∙ h

    left_next : (k : Kind) (n : ℕ) → row_of k e (c + 1 - 0) ≡ n → row_of k e (suc c) ≡ n
    left_next k n h = ap (row_of k e) (let q : suc c ≡ c + 1 - 0 = omega arith in q) ∙ h

    right : (k : Kind) (n : ℕ) → row_of k e (c + 1 - 1) ≡ n → row_of k e c ≡ n
    right k n h = ap (row_of k e) (let q : c ≡ c + 1 - 1 = omega arith in q) ∙ h

    right_next : (k : Kind) (n : ℕ) → row_of k e (c + 1) ≡ n → row_of k e (suc c) ≡ n
    right_next k n h = ap (row_of k e) (let q : suc c ≡ c + 1 = omega arith in q) ∙ h

    shape : (kind : Kind) (corner : Corner) → Stabilises c kind corner r d e → HasBlock kind corner r c d e → row_of (other kind) d c ≢ r
        → IsStabilised (is_cross kind) (is_right corner) (is_high corner) r c d e
    shape Cross LowLeft s b n =
        assemble true false false r c d e grid grid' s.larger s.marked.inside s.marked.row n (left Cross _ b.own) (left_next Cross _ b.own_new)
        (left Ring _ b.other_new) (left_next Ring _ b.far) b.rest
    shape Cross LowRight s b n =
        assemble true true false r c d e grid grid' s.larger s.marked.inside s.marked.row n (right Cross _ b.own_new) (right_next Cross _ b.own)
        (right Ring _ b.far) (right_next Ring _ b.other_new) b.rest
    shape Cross HighLeft s b n =
        assemble true false true r c d e grid grid' s.larger s.marked.inside s.marked.row n (left Cross _ b.own) (left_next Cross _ b.own_new)
        (left Ring _ b.other_new) (left_next Ring _ b.far) b.rest
    shape Cross HighRight s b n =
        assemble true true true r c d e grid grid' s.larger s.marked.inside s.marked.row n (right Cross _ b.own_new) (right_next Cross _ b.own)
        (right Ring _ b.far) (right_next Ring _ b.other_new) b.rest
    shape Ring LowLeft s b n =
        assemble false false false r c d e grid grid' s.larger s.marked.inside s.marked.row n (left Cross _ b.other_new) (left_next Cross _ b.far)
        (left Ring _ b.own) (left_next Ring _ b.own_new) b.rest
    shape Ring LowRight s b n =
        assemble false true false r c d e grid grid' s.larger s.marked.inside s.marked.row n (right Cross _ b.far) (right_next Cross _ b.other_new)
        (right Ring _ b.own_new) (right_next Ring _ b.own) b.rest
    shape Ring HighLeft s b n =
        assemble false false true r c d e grid grid' s.larger s.marked.inside s.marked.row n (left Cross _ b.other_new) (left_next Cross _ b.far)
        (left Ring _ b.own) (left_next Ring _ b.own_new) b.rest
    shape Ring HighRight s b n =
        assemble false true true r c d e grid grid' s.larger s.marked.inside s.marked.row n (right Cross _ b.far) (right_next Cross _ b.other_new)
        (right Ring _ b.own_new) (right_next Ring _ b.own) b.rest
