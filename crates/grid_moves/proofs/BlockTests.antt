-- What the four tests of a block say.
use Rattle.std.proofs.Common.{◌≡◌, ◌≢◌, ◌<◌, ◌≤◌, ◌+◌, ◌-◌, ◌∙◌, ◌⊎◌, ◌==◌, ◌&&◌, ℕ, Bool, true, false, not, cond, arith, sym, refl, ap, ap₂, inl, inr}
use Rattle.std.proofs.lemmas.Bool.{cases_eq, eq-eqb, ne_eqb}
use Rattle.std.proofs.lemmas.Bool.Decides.{nat_tests}
use Rattle.grid_core.specs.declared.mark.Kind.{Kind}
use Rattle.grid_core.specs.declared.mark.Kind.TheVariants.{Cross, Ring}
use Rattle.grid_core.specs.declared.mark.Corner.{Corner}
use Rattle.grid_core.specs.declared.mark.Corner.TheVariants.{LowLeft, LowRight, HighLeft, HighRight}
use Rattle.grid_core.specs.Diagram.{Diagram, IsGrid, size, row_of, other}
use Rattle.grid_core.specs.Corners.{corner_column, corner_row}
use Rattle.grid_core.proofs.Marks.{row_once}
use Rattle.grid_moves.specs.BlockMarks.{is_block_row, block_kind, corner_is_right, corner_on, block_corner}
use Rattle.grid_moves.specs.Destabilisation.{marks_in_block}
use Rattle.grid_moves.proofs.Widened.{right_small, above_small}
use Rattle.grid_moves.proofs.Blocks.{IsBlock}

lies : (r j s : ℕ) → j ≤ 1 → (s ≡ r + j) ⊎ (s ≡ r + 1 - j) → is_block_row r s ≡ true
lies r j s le e = grind (arith, nat_tests)

lies_out : (r j s : ℕ) → j ≤ 1 → s ≢ r + j → s ≢ r + 1 - j → is_block_row r s ≡ false
lies_out r j s le a b = grind (arith, nat_tests)

module _ (c r : ℕ) (kind : Kind) (corner : Corner) (d : Diagram) (grid : IsGrid d) (inside : c + 1 < size d) (block : IsBlock c r kind corner d) where
  corner_in : is_block_row r (row_of (other kind) d (c + corner_column corner)) ≡ true
  corner_in = lies r (corner_row corner) (row_of (other kind) d (c + corner_column corner)) (above_small corner) (inl block.at_corner)

  row_in : is_block_row r (row_of kind d (c + 1 - corner_column corner)) ≡ true
  row_in = lies r (corner_row corner) (row_of kind d (c + 1 - corner_column corner)) (above_small corner) (inl block.in_its_row)

  column_in : is_block_row r (row_of kind d (c + corner_column corner)) ≡ true
  column_in = lies r (corner_row corner) (row_of kind d (c + corner_column corner)) (above_small corner) (inr block.in_its_column)

  rest_out : is_block_row r (row_of (other kind) d (c + 1 - corner_column corner)) ≡ false
  rest_out =
      lies_out r (corner_row corner) (row_of (other kind) d (c + 1 - corner_column corner)) (above_small corner)
      (λ e. absurd (omega (
        arith,
        right_small corner,
        row_once d grid (other kind) (c + 1 - corner_column corner) (c + corner_column corner) (omega (arith, inside))
            (omega (arith, right_small corner, inside)) (e ∙ sym block.at_corner),
      )))
      block.empty

-- the tests of the four marks: X and O of the left column, X and O of the right one
record Tests (d : Diagram) (c r : ℕ) (xa oa xb ob : Bool) : Type 0 where
  cross_left : is_block_row r (row_of Cross d c) ≡ xa
  ring_left : is_block_row r (row_of Ring d c) ≡ oa
  cross_right : is_block_row r (row_of Cross d (c + 1)) ≡ xb
  ring_right : is_block_row r (row_of Ring d (c + 1)) ≡ ob

at : (d : Diagram) (r : ℕ) (k : Kind) (m n : ℕ) (b : Bool) → m ≡ n → is_block_row r (row_of k d m) ≡ b → is_block_row r (row_of k d n) ≡ b
at d r k m n b e is = ap (λ (z : ℕ). is_block_row r (row_of k d z)) (sym e) ∙ is

tests_left : (c r : ℕ) (kind : Kind) (corner : Corner) (d : Diagram) → IsGrid d → c + 1 < size d → IsBlock c r kind corner d → corner_column corner ≡ 0
    → Tests d c r true true (elim kind [ Cross ↦ true | Ring ↦ false ]) (elim kind [ Cross ↦ false | Ring ↦ true ])
tests_left c r Cross corner d grid inside block left = record {
  cross_left = at d r Cross (c + corner_column corner) c true (omega (arith, left)) (column_in c r Cross corner d grid inside block);
  ring_left = at d r Ring (c + corner_column corner) c true (omega (arith, left)) (corner_in c r Cross corner d grid inside block);
  cross_right = at d r Cross (c + 1 - corner_column corner) (c + 1) true (omega (arith, left)) (row_in c r Cross corner d grid inside block);
  ring_right = at d r Ring (c + 1 - corner_column corner) (c + 1) false (omega (arith, left)) (rest_out c r Cross corner d grid inside block);
}
tests_left c r Ring corner d grid inside block left = record {
  cross_left = at d r Cross (c + corner_column corner) c true (omega (arith, left)) (corner_in c r Ring corner d grid inside block);
  ring_left = at d r Ring (c + corner_column corner) c true (omega (arith, left)) (column_in c r Ring corner d grid inside block);
  cross_right = at d r Cross (c + 1 - corner_column corner) (c + 1) false (omega (arith, left)) (rest_out c r Ring corner d grid inside block);
  ring_right = at d r Ring (c + 1 - corner_column corner) (c + 1) true (omega (arith, left)) (row_in c r Ring corner d grid inside block);
}

tests_right : (c r : ℕ) (kind : Kind) (corner : Corner) (d : Diagram) → IsGrid d → c + 1 < size d → IsBlock c r kind corner d → corner_column corner ≡ 1
    → Tests d c r (elim kind [ Cross ↦ true | Ring ↦ false ]) (elim kind [ Cross ↦ false | Ring ↦ true ]) true true
tests_right c r Cross corner d grid inside block right = record {
  cross_left = at d r Cross (c + 1 - corner_column corner) c true (omega (arith, right)) (row_in c r Cross corner d grid inside block);
  ring_left = at d r Ring (c + 1 - corner_column corner) c false (omega (arith, right)) (rest_out c r Cross corner d grid inside block);
  cross_right = at d r Cross (c + corner_column corner) (c + 1) true (omega (arith, right)) (column_in c r Cross corner d grid inside block);
  ring_right = at d r Ring (c + corner_column corner) (c + 1) true (omega (arith, right)) (corner_in c r Cross corner d grid inside block);
}
tests_right c r Ring corner d grid inside block right = record {
  cross_left = at d r Cross (c + 1 - corner_column corner) c false (omega (arith, right)) (rest_out c r Ring corner d grid inside block);
  ring_left = at d r Ring (c + 1 - corner_column corner) c true (omega (arith, right)) (row_in c r Ring corner d grid inside block);
  cross_right = at d r Cross (c + corner_column corner) (c + 1) true (omega (arith, right)) (corner_in c r Ring corner d grid inside block);
  ring_right = at d r Ring (c + corner_column corner) (c + 1) true (omega (arith, right)) (column_in c r Ring corner d grid inside block);
}

-- three marks
count : Bool → Bool → Bool → Bool → ℕ
count xa oa xb ob = 0 + cond xa 1 0 + cond oa 1 0 + cond xb 1 0 + cond ob 1 0

three_of : (d : Diagram) (c r : ℕ) (xa oa xb ob : Bool) → Tests d c r xa oa xb ob → 0 + cond xa 1 0 + cond oa 1 0 + cond xb 1 0 + cond ob 1 0 ≡ 3
    → marks_in_block d c r ≡ 3
three_of d c r xa oa xb ob t e =
    ap (λ b. 0 + cond b 1 0 + cond (is_block_row r (row_of Ring d c)) 1 0 + cond (is_block_row r (row_of Cross d (c + 1))) 1 0 + cond
    (is_block_row r (row_of Ring d (c + 1))) 1 0) t.cross_left
    ∙ ap (λ b. 0 + cond xa 1 0 + cond b 1 0 + cond (is_block_row r (row_of Cross d (c + 1))) 1 0 + cond
    (is_block_row r (row_of Ring d (c + 1))) 1 0) t.ring_left
    ∙ ap (λ b. 0 + cond xa 1 0 + cond oa 1 0 + cond b 1 0 + cond (is_block_row r (row_of Ring d (c + 1))) 1 0) t.cross_right
    ∙ ap (λ b. 0 + cond xa 1 0 + cond oa 1 0 + cond xb 1 0 + cond b 1 0) t.ring_right
    ∙ e

pub block_three : (c r : ℕ) (kind : Kind) (corner : Corner) (d : Diagram) → IsGrid d → c + 1 < size d → IsBlock c r kind corner d → marks_in_block d c r ≡ 3
block_three c r kind corner d grid inside block = elim (cases_eq (corner_column corner) 0) [
  | inl left ↦ from_left kind (tests_left c r kind corner d grid inside block left)
  | inr ne ↦ from_right kind (tests_right c r kind corner d grid inside block (omega (arith, ne, right_small corner)))
]
  where
    from_left : (k : Kind) → Tests d c r true true (elim k [ Cross ↦ true | Ring ↦ false ]) (elim k [ Cross ↦ false | Ring ↦ true ]) → marks_in_block d c r ≡ 3
    from_left Cross t = three_of d c r true true true false t refl
    from_left Ring t = three_of d c r true true false true t refl

    from_right : (k : Kind) → Tests d c r (elim k [ Cross ↦ true | Ring ↦ false ]) (elim k [ Cross ↦ false | Ring ↦ true ]) true true → marks_in_block d c r ≡ 3
    from_right Cross t = three_of d c r true false true true t refl
    from_right Ring t = three_of d c r false true true true t refl

-- and which they are
kind_of : (d : Diagram) (c r : ℕ) (xa oa xb ob : Bool) → Tests d c r xa oa xb ob → block_kind d c r ≡ cond (oa && ob) Ring Cross
kind_of d c r xa oa xb ob t = ap₂ (λ a b. cond (a && b) Ring Cross) t.ring_left t.ring_right

right_is : (d : Diagram) (c r : ℕ) (xa oa xb ob : Bool) → Tests d c r xa oa xb ob → corner_is_right d c r ≡ not (xa && oa)
right_is d c r xa oa xb ob t = ap₂ (λ a b. not (a && b)) t.cross_left t.ring_left

record Shape (d : Diagram) (c r : ℕ) (kind : Kind) (right : Bool) : Type 0 where
  kind_is : block_kind d c r ≡ kind
  side_is : corner_is_right d c r ≡ right

shape_left : (c r : ℕ) (kind : Kind) (corner : Corner) (d : Diagram) → IsGrid d → c + 1 < size d → IsBlock c r kind corner d → corner_column corner ≡ 0
    → Shape d c r kind false
shape_left c r Cross corner d grid inside block left =
    let t = tests_left c r Cross corner d grid inside block left in
    record { kind_is = kind_of d c r true true true false t; side_is = right_is d c r true true true false t }
shape_left c r Ring corner d grid inside block left =
    let t = tests_left c r Ring corner d grid inside block left in
    record { kind_is = kind_of d c r true true false true t; side_is = right_is d c r true true false true t }

shape_right : (c r : ℕ) (kind : Kind) (corner : Corner) (d : Diagram) → IsGrid d → c + 1 < size d → IsBlock c r kind corner d → corner_column corner ≡ 1
    → Shape d c r kind true
shape_right c r Cross corner d grid inside block right =
    let t = tests_right c r Cross corner d grid inside block right in
    record { kind_is = kind_of d c r true false true true t; side_is = right_is d c r true false true true t }
shape_right c r Ring corner d grid inside block right =
    let t = tests_right c r Ring corner d grid inside block right in
    record { kind_is = kind_of d c r false true true true t; side_is = right_is d c r false true true true t }

-- the corner, from the side and from the row of the mark of the kind beside it
corner_by : (d : Diagram) (c r : ℕ) (kind : Kind) (right above : Bool) → Shape d c r kind right → (row_of kind d (cond right (c + 1) c) == r) ≡ above
    → block_corner d c r ≡ corner_on right above
corner_by d c r kind right above shape is =
    ap₂ (λ k (s : Bool). corner_on s (row_of k d (cond s (c + 1) c) == r)) shape.kind_is shape.side_is ∙ ap (λ b. corner_on right b) is

high : (c r m n : ℕ) (kind : Kind) (d : Diagram) (j : ℕ) → m ≡ n → row_of kind d m ≡ r + 1 - j → j ≡ 1 → (row_of kind d n == r) ≡ true
high c r m n kind d j e is h = eq-eqb (row_of kind d n) r (ap (λ (z : ℕ). row_of kind d z) (sym e) ∙ is ∙ (let q : r + 1 - j ≡ r = omega (arith, h) in q))

low : (c r m n : ℕ) (kind : Kind) (d : Diagram) (j : ℕ) → m ≡ n → row_of kind d m ≡ r + 1 - j → j ≡ 0 → (row_of kind d n == r) ≡ false
low c r m n kind d j e is l = ne_eqb (row_of kind d n) r (λ here. absurd (omega (arith, sym (ap (λ (z : ℕ). row_of kind d z) (sym e) ∙ is) ∙ here, l)))

pub block_kind_is : (c r : ℕ) (kind : Kind) (corner : Corner) (d : Diagram) → IsGrid d → c + 1 < size d → IsBlock c r kind corner d → block_kind d c r ≡ kind
block_kind_is c r kind corner d grid inside block = elim (cases_eq (corner_column corner) 0) [
  | inl left ↦ (shape_left c r kind corner d grid inside block left).kind_is
  | inr ne ↦ (shape_right c r kind corner d grid inside block (omega (arith, ne, right_small corner))).kind_is
]

pub block_corner_is : (c r : ℕ) (kind : Kind) (corner : Corner) (d : Diagram) → IsGrid d → c + 1 < size d → IsBlock c r kind corner d
    → block_corner d c r ≡ corner
block_corner_is c r kind LowLeft d grid inside block =
    corner_by d c r kind false false (shape_left c r kind LowLeft d grid inside block refl) (low c r (c + 0) c kind d 0 (omega arith) block.in_its_column refl)
block_corner_is c r kind LowRight d grid inside block =
    corner_by d c r kind true false (shape_right c r kind LowRight d grid inside block refl) (low c r (c + 1) (c + 1) kind d 0 refl block.in_its_column refl)
block_corner_is c r kind HighLeft d grid inside block =
    corner_by d c r kind false true (shape_left c r kind HighLeft d grid inside block refl) (high c r (c + 0) c kind d 1 (omega arith) block.in_its_column refl)
block_corner_is c r kind HighRight d grid inside block =
    corner_by d c r kind true true (shape_right c r kind HighRight d grid inside block refl) (high c r (c + 1) (c + 1) kind d 1 refl block.in_its_column refl)
