-- The block of a destabilisation, and what is left when its row of two marks is taken out.
use Rattle.std.proofs.Common.{◌≡◌, ◌≢◌, ◌<◌, ◌≤◌, ◌+◌, ◌-◌, ◌∙◌, ◌⊎◌, ◌==◌, ◌||◌, ℕ, Bool, true, false, cond, arith, sym, refl, ap, inl, inr}
use Rattle.std.proofs.lemmas.Bool.{cases_eq, ne_eqb, eq-eqb}
use Rattle.std.proofs.lemmas.Bool.Decides.{nat_tests}
use Rattle.grid_core.specs.declared.mark.Kind.{Kind}
use Rattle.grid_core.specs.declared.mark.Kind.TheVariants.{Cross, Ring}
use Rattle.grid_core.specs.declared.mark.Corner.{Corner}
use Rattle.grid_core.specs.declared.mark.Corner.TheVariants.{LowLeft, LowRight, HighLeft, HighRight}
use Rattle.grid_core.specs.Diagram.{Diagram, IsGrid, size, row_of, other}
use Rattle.grid_core.specs.Corners.{corner_column, corner_row}
use Rattle.grid_core.specs.Places.{lifted}
use Rattle.grid_core.proofs.Marks.{no_cell_twice, row_once}
use Rattle.grid_moves.specs.DoubleRows.{column_in_new_row, double_row, column_in_double_row}
use Rattle.grid_moves.specs.Destabilisation.{marks_in_block}
use Rattle.grid_moves.specs.Stabilisation.{Stabilises}
use Rattle.grid_core.proofs.Marks.{mark_at}
use Rattle.grid_moves.proofs.Widened.{two_kinds, at_column}
use Rattle.grid_moves.proofs.Widened.{right_small, above_small}

-- three marks in a block: the other kind stands at the corner, the kind in the two cells beside it, and the fourth cell is empty
pub record IsBlock (c r : ℕ) (kind : Kind) (corner : Corner) (d : Diagram) : Type 0 where
  pub at_corner : row_of (other kind) d (c + corner_column corner) ≡ r + corner_row corner
  pub in_its_row : row_of kind d (c + 1 - corner_column corner) ≡ r + corner_row corner
  pub in_its_column : row_of kind d (c + corner_column corner) ≡ r + 1 - corner_row corner
  pub empty : row_of (other kind) d (c + 1 - corner_column corner) ≢ r + 1 - corner_row corner

-- three of four tests hold
abbrev AllBut : Bool → Bool → Bool → Bool → Type 0
AllBut out a b c = (out ≡ false) × (a ≡ true) × (b ≡ true) × (c ≡ true)

one_out : (s t u v : Bool) → 0 + cond s 1 0 + cond t 1 0 + cond u 1 0 + cond v 1 0 ≡ 3 → AllBut s t u v ⊎ (AllBut t s u v ⊎ (AllBut u s t v ⊎ AllBut v s t u))
one_out true true true true e = absurd (omega (arith, e))
one_out true true true false e = inr (inr (inr (refl, refl, refl, refl)))
one_out true true false true e = inr (inr (inl (refl, refl, refl, refl)))
one_out true true false false e = absurd (omega (arith, e))
one_out true false true true e = inr (inl (refl, refl, refl, refl))
one_out true false true false e = absurd (omega (arith, e))
one_out true false false true e = absurd (omega (arith, e))
one_out true false false false e = absurd (omega (arith, e))
one_out false true true true e = inl (refl, refl, refl, refl)
one_out false true true false e = absurd (omega (arith, e))
one_out false true false true e = absurd (omega (arith, e))
one_out false true false false e = absurd (omega (arith, e))
one_out false false true true e = absurd (omega (arith, e))
one_out false false true false e = absurd (omega (arith, e))
one_out false false false true e = absurd (omega (arith, e))
one_out false false false false e = absurd (omega (arith, e))

lies : (s r : ℕ) → ((s == r) || (s == r + 1)) ≡ true → (s ≡ r) ⊎ (s ≡ r + 1)
lies s r e = grind (arith, nat_tests)

lies_not : (s r : ℕ) → ((s == r) || (s == r + 1)) ≡ false → (s ≢ r) × (s ≢ r + 1)
lies_not s r e = (λ is. grind (arith, nat_tests), λ is. grind (arith, nat_tests))

-- the corner stands in column a, the cell beside it in column b
block_at : (c r a b : ℕ) (kind : Kind) (corner : Corner) (d : Diagram) → c + corner_column corner ≡ a → c + 1 - corner_column corner ≡ b
    → row_of (other kind) d a ≡ r + corner_row corner → row_of kind d b ≡ r + corner_row corner → row_of kind d a ≡ r + 1 - corner_row corner
    → row_of (other kind) d b ≢ r + 1 - corner_row corner → IsBlock c r kind corner d
block_at c r a b kind corner d ea eb at_corner in_row in_column empty = record {
  at_corner = at_column (other kind) d a (c + corner_column corner) (r + corner_row corner) (sym ea) at_corner;
  in_its_row = at_column kind d b (c + 1 - corner_column corner) (r + corner_row corner) (sym eb) in_row;
  in_its_column = at_column kind d a (c + corner_column corner) (r + 1 - corner_row corner) (sym ea) in_column;
  empty = λ e. empty (at_column (other kind) d (c + 1 - corner_column corner) b (r + 1 - corner_row corner) eb e);
}

block_beside : (c r a b : ℕ) (kind : Kind) (low high : Corner) (d : Diagram) → c + corner_column low ≡ a → c + 1 - corner_column low ≡ b
    → c + corner_column high ≡ a → c + 1 - corner_column high ≡ b → corner_row low ≡ 0 → corner_row high ≡ 1
    → (row_of (other kind) d a ≡ r) ⊎ (row_of (other kind) d a ≡ r + 1) → (row_of kind d b ≡ r) ⊎ (row_of kind d b ≡ r + 1)
    → (row_of kind d a ≡ r) ⊎ (row_of kind d a ≡ r + 1) → (row_of (other kind) d b ≢ r) × (row_of (other kind) d b ≢ r + 1)
    → row_of (other kind) d a ≢ row_of kind d a → row_of kind d b ≢ row_of kind d a → (corner : Corner) × IsBlock c r kind corner d
block_beside c r a b kind low high d la lb ha hb l h corner beside own out apart once = elim own [
  | inl is ↦ (
    high,
    block_at c r a b kind high d ha hb
        (elim corner [ inl e ↦ absurd (apart (e ∙ sym is)) | inr e ↦ omega (arith, e, h) ])
        (elim beside [ inl e ↦ absurd (once (e ∙ sym is)) | inr e ↦ omega (arith, e, h) ])
        (omega (arith, is, h))
        (λ e. out.0 (omega (arith, e, h))),
  )
  | inr is ↦ (
    low,
    block_at c r a b kind low d la lb
        (elim corner [ inl e ↦ omega (arith, e, l) | inr e ↦ absurd (apart (e ∙ sym is)) ])
        (elim beside [ inl e ↦ omega (arith, e, l) | inr e ↦ absurd (once (e ∙ sym is)) ])
        (omega (arith, is, l))
        (λ e. out.1 (omega (arith, e, l))),
  )
]

-- three marks stand in one of eight ways: by the kind and the corner
pub block_shape : (c r : ℕ) (d : Diagram) → IsGrid d → c + 1 < size d → marks_in_block d c r ≡ 3
    → (kind : Kind) × ((corner : Corner) × IsBlock c r kind corner d)
block_shape c r d grid inside three =
    let xa : ℕ = row_of Cross d c in
    let oa : ℕ = row_of Ring d c in
    let xb : ℕ = row_of Cross d (c + 1) in
    let ob : ℕ = row_of Ring d (c + 1) in
    let test : ℕ → Bool = λ s. (s == r) || (s == r + 1) in
    let first : c < size d = omega arith in
    let left = no_cell_twice d grid c first in
    let right = no_cell_twice d grid (c + 1) inside in
    let once : (k : Kind) → row_of k d (c + 1) ≢ row_of k d c = λ k e. absurd (omega (arith, row_once d grid k (c + 1) c inside first e)) in
    elim (one_out (test xa) (test oa) (test xb) (test ob) three) [
      | inl p ↦ (
        Ring,
        block_beside c r (c + 1) c Ring LowRight HighRight d (omega arith) (omega arith) (omega arith) (omega arith) refl refl (lies xb r p.2)
            (lies oa r p.1) (lies ob r p.3) (lies_not xa r p.0) right (λ e. once Ring (sym e)),
      )
      | inr p' ↦ elim p' [
        | inl p ↦ (
          Cross,
          block_beside c r (c + 1) c Cross LowRight HighRight d (omega arith) (omega arith) (omega arith) (omega arith) refl refl (lies ob r p.3)
              (lies xa r p.1) (lies xb r p.2) (lies_not oa r p.0) (λ e. right (sym e)) (λ e. once Cross (sym e)),
        )
        | inr p'' ↦ elim p'' [
          | inl p ↦ (
            Ring,
            block_beside c r c (c + 1) Ring LowLeft HighLeft d (omega arith) (omega arith) (omega arith) (omega arith) refl refl (lies xa r p.1)
                (lies ob r p.3) (lies oa r p.2) (lies_not xb r p.0) left (once Ring),
          )
          | inr p ↦ (
            Cross,
            block_beside c r c (c + 1) Cross LowLeft HighLeft d (omega arith) (omega arith) (omega arith) (omega arith) refl refl (lies oa r p.2)
                (lies xb r p.3) (lies xa r p.1) (lies_not ob r p.0) (λ e. left (sym e)) (once Cross),
          )
        ]
      ]
    ]

-- the row and the columns that go, by the block
record Taken (d : Diagram) (c q cross ring : ℕ) : Type 0 where
  row : double_row d c ≡ q
  of_cross : column_in_double_row d c Cross ≡ cross
  of_ring : column_in_double_row d c Ring ≡ ring

taken_same : (d : Diagram) (c q : ℕ) → row_of Cross d c ≡ q → row_of Ring d (c + 1) ≡ q → Taken d c q c (c + 1)
taken_same d c q ex er =
    let is = eq-eqb (row_of Cross d c) (row_of Ring d (c + 1)) (ex ∙ sym er) in
    record {
      row = ap (λ b. cond b (row_of Cross d c) (row_of Ring d c)) is ∙ ex;
      of_cross = ap (λ b. cond b c (c + 1)) is;
      of_ring = ap (λ b. cond b (c + 1) c) is;
    }

taken_other : (d : Diagram) (c q : ℕ) → row_of Cross d c ≢ row_of Ring d (c + 1) → row_of Ring d c ≡ q → Taken d c q (c + 1) c
taken_other d c q ne er =
    let is = ne_eqb (row_of Cross d c) (row_of Ring d (c + 1)) ne in
    record {
      row = ap (λ b. cond b (row_of Cross d c) (row_of Ring d c)) is ∙ er;
      of_cross = ap (λ b. cond b c (c + 1)) is;
      of_ring = ap (λ b. cond b (c + 1) c) is;
    }

taken_at : (c r : ℕ) (kind : Kind) (corner : Corner) (d : Diagram) → IsBlock c r kind corner d
    → Taken d c (r + corner_row corner) (column_in_new_row c kind corner Cross) (column_in_new_row c kind corner Ring)
taken_at c r Cross corner d block = elim (cases_eq (corner_column corner) 0) [
  | inl left ↦ moved (c + 1) (omega (arith, left)) c (omega (arith, left))
      (taken_other d c (r + corner_row corner)
      (λ e. block.empty (at_column Ring d (c + 1) (c + 1 - corner_column corner) (r + 1 - corner_row corner) (omega (arith, left))
      (sym e ∙ at_column Cross d (c + corner_column corner) c (r + 1 - corner_row corner) (omega (arith, left)) block.in_its_column)))
      (at_column Ring d (c + corner_column corner) c (r + corner_row corner) (omega (arith, left)) block.at_corner))
  | inr ne ↦
      let right : corner_column corner ≡ 1 = omega (arith, ne, right_small corner) in
      moved c (omega (arith, right)) (c + 1) (omega (arith, right))
      (taken_same d c (r + corner_row corner)
      (at_column Cross d (c + 1 - corner_column corner) c (r + corner_row corner) (omega (arith, right)) block.in_its_row)
      (at_column Ring d (c + corner_column corner) (c + 1) (r + corner_row corner) (omega (arith, right)) block.at_corner))
]
  where
    moved : (x : ℕ) → x ≡ c + 1 - corner_column corner → (o : ℕ) → o ≡ c + corner_column corner → Taken d c (r + corner_row corner) x o
        → Taken d c (r + corner_row corner) (c + 1 - corner_column corner) (c + corner_column corner)
    moved x ex o eo t = record { row = t.row; of_cross = t.of_cross ∙ ex; of_ring = t.of_ring ∙ eo }
taken_at c r Ring corner d block = elim (cases_eq (corner_column corner) 0) [
  | inl left ↦ moved c (omega (arith, left)) (c + 1) (omega (arith, left))
      (taken_same d c (r + corner_row corner) (at_column Cross d (c + corner_column corner) c (r + corner_row corner) (omega (arith, left)) block.at_corner)
      (at_column Ring d (c + 1 - corner_column corner) (c + 1) (r + corner_row corner) (omega (arith, left)) block.in_its_row))
  | inr ne ↦
      let right : corner_column corner ≡ 1 = omega (arith, ne, right_small corner) in
      moved (c + 1) (omega (arith, right)) c (omega (arith, right))
      (taken_other d c (r + corner_row corner)
      (λ e. block.empty (at_column Cross d c (c + 1 - corner_column corner) (r + 1 - corner_row corner) (omega (arith, right))
      (e ∙ at_column Ring d (c + corner_column corner) (c + 1) (r + 1 - corner_row corner) (omega (arith, right)) block.in_its_column)))
      (at_column Ring d (c + 1 - corner_column corner) c (r + corner_row corner) (omega (arith, right)) block.in_its_row))
]
  where
    moved : (x : ℕ) → x ≡ c + corner_column corner → (o : ℕ) → o ≡ c + 1 - corner_column corner → Taken d c (r + corner_row corner) x o
        → Taken d c (r + corner_row corner) (c + corner_column corner) (c + 1 - corner_column corner)
    moved x ex o eo t = record { row = t.row; of_cross = t.of_cross ∙ ex; of_ring = t.of_ring ∙ eo }

pub double_row_is : (c r : ℕ) (kind : Kind) (corner : Corner) (d : Diagram) → IsBlock c r kind corner d → double_row d c ≡ r + corner_row corner
double_row_is c r kind corner d block = (taken_at c r kind corner d block).row

pub column_in_double_row_is : (c r : ℕ) (kind : Kind) (corner : Corner) (d : Diagram) → IsBlock c r kind corner d → (k : Kind)
    → column_in_double_row d c k ≡ column_in_new_row c kind corner k
column_in_double_row_is c r kind corner d block Cross = (taken_at c r kind corner d block).of_cross
column_in_double_row_is c r kind corner d block Ring = (taken_at c r kind corner d block).of_ring

-- what a stabilisation makes is such a block
lifted_apart : (r j s : ℕ) → j ≤ 1 → s ≢ r → lifted (r + 1) s ≢ r + 1 - j
lifted_apart r j s le ne = grind (arith, nat_tests)

pub block_made : (c r : ℕ) (kind : Kind) (corner : Corner) (e d : Diagram) → IsGrid e → Stabilises c kind corner r e d → IsBlock c r kind corner d
block_made c r kind corner e d grid stab = record {
  at_corner = stab.at_corner.row;
  in_its_row = stab.in_its_row.row;
  in_its_column = stab.in_its_column.row;
  empty = λ is.
      let s : ℕ = row_of (other kind) e c in
      let far : s ≢ r = λ here. two_kinds e grid kind c stab.marked.inside (stab.marked.row ∙ sym here) in
      lifted_apart r (corner_row corner) s (above_small corner) far (sym (stab.of_column s (mark_at e (other kind) c stab.marked.inside)).row ∙ is);
}
