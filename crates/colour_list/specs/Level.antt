-- What a sweep from the lowest row upward holds before each row; only private clauses and proofs cite this file.
-- A list of colours in the making has MAX_SIZE numbers, 0 in each column that no row so far has reached.
use Rattle.std.specs.Prelude.{◌≡◌, ◌<◌, ◌≤◌, ℕ, List, true, length, map, slice_index, slice_set}
use Rattle.std.specs.List.{All, range_with_len}
use Rattle.grid_core.specs.declared.grid.TheConstants.{MAX_SIZE}
use Rattle.grid_core.specs.Diagram.{Diagram, size}
use Rattle.grid_core.specs.Parts.{column_span}
use Rattle.quandle_core.specs.Quandle.{Table}
use Rattle.colour_rows.specs.Walk.{closes}
use Rattle.colour_list.specs.Listing.{times}
use Rattle.colour_rows.specs.Equation.{Equation, walk_of, walk_back_of}

-- a list with each colour in turn in column c
abbrev pub spread : ℕ → ℕ → List ℕ → List (List ℕ)
spread q c f = map (slice_set f c) (range_with_len 0 q)

-- a list with the colour at one end of a row that the row's equation gives it
abbrev pub with_right : Table → Equation → List ℕ → List ℕ
with_right t e f = slice_set f e.right_end (walk_of t e f)

abbrev pub with_left : Table → Equation → List ℕ → List ℕ
with_left t e f = slice_set f e.left_end (walk_back_of t e f)

-- a list with each colour in turn at the left end of a row, and what its equation then gives at the right end
abbrev pub with_both : Table → Equation → List ℕ → List (List ℕ)
with_both t e f = map (λ a. with_right t e (slice_set f e.left_end a)) (range_with_len 0 t.order)

-- n colours below q that are 0 in each blank column and meet what was read
pub record Meets (n q : ℕ) (IsBlank : ℕ → Type 0) (IsMet : List ℕ → Type 0) (g : List ℕ) : Type 0 where
  pub long : length g ≡ n
  pub below : All (λ y. y < q) g
  pub blank : (c : ℕ) → c < n → IsBlank c → slice_index g c ≡ 0
  pub met : IsMet g

-- the level has each such list once, and no other
pub record IsLevel (n q : ℕ) (IsBlank : ℕ → Type 0) (IsMet : List ℕ → Type 0) (level : List (List ℕ)) : Type 0 where
  pub sound : All (Meets n q IsBlank IsMet) level
  pub once : (g : List ℕ) → Meets n q IsBlank IsMet g → times g level ≡ 1

-- column c has no mark below row r; so have the columns behind the diagram
abbrev pub IsUnbegun : Diagram → ℕ → ℕ → Type 0
IsUnbegun d r c = c < size d → r ≤ (column_span d c).low

-- the walk of each row below r ends with the colour of its right end
abbrev pub RowsClose : Table → Diagram → ℕ → List ℕ → Type 0
RowsClose t d r f = (s : ℕ) → s < r → closes t d f s ≡ true

-- before row r: each list of colours on which the rows below r close, 0 where the column has not begun, once, and no other
abbrev pub IsLevelAt : Table → Diagram → ℕ → List (List ℕ) → Type 0
IsLevelAt t d r level = IsLevel MAX_SIZE t.order (IsUnbegun d r) (RowsClose t d r) level
