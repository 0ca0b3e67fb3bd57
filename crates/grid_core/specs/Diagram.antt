-- Grid diagrams, also called arc presentations (Cromwell 1995, Dynnikov 2006).
-- Columns are counted from the left and rows from below, both from 0.
use Rattle.std.specs.Prelude.{◌≡◌, ◌≢◌, ◌<◌, ◌≤◌, ℕ, List, length, slice_index, IsPermutation}
use Rattle.std.specs.List.{All, zip, range_with_len}
use Rattle.grid_core.specs.declared.mark.Kind.{Kind}
use Rattle.grid_core.specs.declared.mark.Kind.TheVariants.{Cross, Ring}
use Rattle.grid_core.specs.declared.grid.TheConstants.{MAX_SIZE}

-- by column, the row of its X and the row of its O
pub record Diagram : Type 0 where
  pub x : List ℕ
  pub o : List ℕ

-- the number of columns, which in a grid is that of the rows
abbrev pub size : Diagram → ℕ
size d = length d.x

-- the kind that a mark does not have
abbrev pub other : Kind → Kind
other Cross = Ring
other Ring = Cross

-- the rows of the marks of a kind, by column
abbrev pub rows_of : Kind → Diagram → List ℕ
rows_of Cross d = d.x
rows_of Ring d = d.o

-- the row of the mark of this kind in a column
abbrev pub row_of : Kind → Diagram → ℕ → ℕ
row_of kind d c = slice_index (rows_of kind d) c

-- a mark of this kind stands in column c and row r
pub record HasMark (d : Diagram) (kind : Kind) (c r : ℕ) : Type 0 where
  pub inside : c < size d
  pub row : row_of kind d c ≡ r

-- each number below n stands in the list exactly once
abbrev pub IsOneEach : ℕ → List ℕ → Type 0
IsOneEach n rows = IsPermutation (range_with_len 0 n) rows

-- each column and each row has exactly one X and exactly one O, and no cell has two marks
pub record IsGrid (d : Diagram) : Type 0 where
  pub least : 2 ≤ length d.x
  pub most : length d.x ≤ MAX_SIZE
  pub same : length d.o ≡ length d.x
  pub crosses : IsOneEach (length d.x) d.x
  pub rings : IsOneEach (length d.x) d.o
  pub apart : All (λ (p : ℕ × ℕ). p.0 ≢ p.1) (zip d.x d.o)

-- the same said of the marks: a law states that these are exactly the grids
pub record IsGridByMarks (d : Diagram) : Type 0 where
  pub least : 2 ≤ size d
  pub most : size d ≤ MAX_SIZE
  pub same : length d.o ≡ length d.x
  -- all marks lie in rows below the size
  pub below : (kind : Kind) (c r : ℕ) → HasMark d kind c r → r < size d
  -- each row has a mark of each kind, and no second one
  pub one : (kind : Kind) (r : ℕ) → r < size d → (c : ℕ) × HasMark d kind c r
  pub single : (kind : Kind) (b c r : ℕ) → HasMark d kind b r → HasMark d kind c r → b ≡ c
  -- no cell has two marks
  pub apart : (c r : ℕ) → HasMark d Cross c r → HasMark d Ring c r → ⊥
