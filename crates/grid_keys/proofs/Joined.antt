-- A translate by its shifts, as moves.
use Rattle.std.proofs.Common.{◌≡◌, ◌<◌, ◌∙◌, ℕ, zero, suc, arith, sym, refl, ap, ap₂, subst, inl, inr}
use Rattle.grid_core.specs.Diagram.{Diagram, IsGrid, size, row_of}
use Rattle.grid_core.proofs.Marks.{row_below, same_diagram}
use Rattle.grid_moves.specs.declared.step.Move.TheVariants.{ShiftColumns, ShiftRows}
use Rattle.grid_moves.specs.Shift.{shifted}
use Rattle.grid_moves.specs.Step.{Step}
use Rattle.grid_moves.specs.Joining.{Joins, JoinsWithin}
use Rattle.grid_moves.proofs.Shifted.{shifted_high}
use Rattle.grid_moves.proofs.Within.{within_append, within_joins}
use Rattle.grid_keys.specs.Translation.{translate}
use Rattle.grid_keys.specs.Shifts.{needed_column_shift, needed_row_shift, shift_moves}
use Rattle.grid_keys.proofs.Translated.{origin, origin_cases, size-translate, row_of-translate, translate-renumbered, translate-grid, translate-translate}

pub unshifted : (n c : ℕ) → c < n → shifted n 0 c ≡ c
unshifted n c lt = omega (arith, shifted_high n 0 c (omega arith) lt)

pub at_origin : (n c : ℕ) → c < n → origin n 0 c ≡ c
at_origin n c lt = elim (origin_cases n 0 c (omega (arith, lt)) lt) [ inl low ↦ omega (arith, low.1) | inr high ↦ absurd (omega (arith, high.0, lt)) ]

-- no shift
pub translate_none : (d : Diagram) → IsGrid d → translate d 0 0 ≡ d
translate_none d grid =
    let some : 0 < size d = omega (arith, grid.least) in
    same_diagram (translate d 0 0) d (translate-grid d 0 0 grid some some) grid (size-translate d 0 0 some)
    (λ kind c lt.
    let inside : c < size d = omega (arith, lt, size-translate d 0 0 some) in
    row_of-translate d 0 0 grid some kind c inside
    ∙ ap (λ (z : ℕ). shifted (size d) 0 (row_of kind d z)) (at_origin (size d) c inside)
    ∙ unshifted (size d) (row_of kind d c) (row_below d grid kind c inside))

-- the shift of columns alone, and the shift of rows alone
pub column_shift_step : (d : Diagram) (a : ℕ) → IsGrid d → 0 < a → a < size d → Step d (ShiftColumns a) (translate d a 0)
column_shift_step d a grid least most =
    let some : 0 < size d = omega (arith, grid.least) in
    let both = translate-renumbered d a 0 grid most in
    record {
      before = grid;
      after = translate-grid d a 0 grid most some;
      marks = record {
        least = least;
        most = most;
        renumbered = record {
          same_size = both.same_size;
          marks = λ kind c r mark.
              let moved = both.marks kind c r mark in
              let low : r < size d = omega (arith, mark.row, row_below d grid kind c mark.inside) in
              record { inside = moved.inside; row = moved.row ∙ unshifted (size d) r low };
        };
      };
    }

pub row_shift_step : (d : Diagram) (b : ℕ) → IsGrid d → 0 < b → b < size d → Step d (ShiftRows b) (translate d 0 b)
row_shift_step d b grid least most =
    let some : 0 < size d = omega (arith, grid.least) in
    let both = translate-renumbered d 0 b grid some in
    record {
      before = grid;
      after = translate-grid d 0 b grid some most;
      marks = record {
        least = least;
        most = most;
        renumbered = record {
          same_size = both.same_size;
          marks = λ kind c r mark.
              let moved = both.marks kind c r mark in
              let stays = unshifted (size d) c mark.inside in
              record { inside = omega (arith, mark.inside, both.same_size); row = ap (λ (z : ℕ). row_of kind (translate d 0 b) z) (sym stays) ∙ moved.row };
        };
      };
    }

columns_joined : (d : Diagram) (a : ℕ) → IsGrid d → a < size d → JoinsWithin (size d) d (needed_column_shift a) (translate d a 0)
columns_joined d zero grid most = (omega arith, sym (translate_none d grid))
columns_joined d (suc k) grid most =
    (omega arith, (translate d (suc k) 0, (column_shift_step d (suc k) grid (omega arith) most, (omega (arith, size-translate d (suc k) 0 most), refl))))

rows_joined : (d : Diagram) (b : ℕ) → IsGrid d → b < size d → JoinsWithin (size d) d (needed_row_shift b) (translate d 0 b)
rows_joined d zero grid most = (omega arith, sym (translate_none d grid))
rows_joined d (suc k) grid most = (
  omega arith,
  (
    translate d 0 (suc k),
    (
      row_shift_step d (suc k) grid (omega arith) most,
      (omega (arith, size-translate d 0 (suc k) (omega (arith, grid.least))), refl),
    ),
  ),
)

-- one after the other
pub columns_then_rows : (d : Diagram) (a b : ℕ) → IsGrid d → a < size d → b < size d → translate (translate d a 0) 0 b ≡ translate d a b
columns_then_rows d a b grid ha hb =
    let some : 0 < size d = omega (arith, grid.least) in
    translate-translate d a 0 0 b grid ha some some hb
    ∙ ap₂ (λ (z w : ℕ). translate d z w) (at_origin (size d) a ha) (first_of b hb)
  where
    first_of : (b : ℕ) → b < size d → origin (size d) b 0 ≡ b
    first_of b hb = elim (origin_cases (size d) b 0 hb (omega (arith, hb))) [ inl low ↦ omega (arith, low.1) | inr high ↦ absurd (omega (arith, high.0, hb)) ]

pub shifts_joined_within : (d : Diagram) (a b : ℕ) → IsGrid d → a < size d → b < size d → JoinsWithin (size d) d (shift_moves a b) (translate d a b)
shifts_joined_within d a b grid ha hb =
    let some : 0 < size d = omega (arith, grid.least) in
    let half : Diagram = translate d a 0 in
    let long : size half ≡ size d = size-translate d a 0 ha in
    within_append (size d) (needed_column_shift a) (needed_row_shift b) d half (translate d a b) (columns_joined d a grid ha)
    (subst (λ (n : ℕ). JoinsWithin n half (needed_row_shift b) (translate d a b)) long
    (subst (λ t. JoinsWithin (size half) half (needed_row_shift b) t) (columns_then_rows d a b grid ha hb)
    (rows_joined half b (translate-grid d a 0 grid ha some) (omega (arith, long, hb)))))

pub shifts_joined : (d : Diagram) (a b : ℕ) → IsGrid d → a < size d → b < size d → Joins d (shift_moves a b) (translate d a b)
shifts_joined d a b grid ha hb = within_joins (size d) (shift_moves a b) d (translate d a b) (shifts_joined_within d a b grid ha hb)
