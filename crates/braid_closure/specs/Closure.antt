-- The closure of a braid as a grid diagram, from its lowest row to its highest (braids: Artin 1947; grids: Cromwell 1995).
-- The foot of position j begins in row j - 1, and letter t, counted from 0, has row m + t. The strand of position j then turns at the top row n - j
-- and comes back down to row j - 1.
use Rattle.std.specs.Prelude.{ℕ, zero, suc, ◌+◌, ◌-◌, ◌*◌, ℤ, pos, negsuc, List, [], ◌∷◌, ◌++◌, map, length, slice_index}
use Rattle.std.specs.List.{range_with_len}
use Rattle.grid_core.specs.Diagram.{Diagram}
use Rattle.grid_core.specs.declared.mark.Kind.TheVariants.{Cross}
use Rattle.grid_core.specs.Parts.{column_of}
use Rattle.braid_core.specs.Braid.{Word}
use Rattle.braid_closure.specs.declared.columns.Column.{Column}
use Rattle.braid_closure.specs.Columns.{begun, ended, at_position, diagram_of}

-- letter +k in row r: the column of position k+1 ends, and a new one begins directly to the left of the column of position k
abbrev pub positive_columns : ℕ → ℕ → List Column → List Column
positive_columns k r columns = at_position k (λ c. begun r ∷ c ∷ []) (at_position (k + 1) (λ c. ended r c ∷ []) columns)

-- letter -k in row r: the column of position k ends, and a new one begins directly to the right of the column of position k+1
abbrev pub negative_columns : ℕ → ℕ → List Column → List Column
negative_columns k r columns = at_position k (λ c. ended r c ∷ []) (at_position (k + 1) (λ c. c ∷ begun r ∷ []) columns)

abbrev pub after_letter : ℤ → ℕ → List Column → List Column
after_letter (pos k) r columns = positive_columns k r columns
after_letter (negsuc n) r columns = negative_columns (n + 1) r columns

-- the sign of the crossing of a letter: 1 for +k, and -1 for -k
abbrev pub letter_sign : ℤ → ℤ
letter_sign (pos k) = pos 1
letter_sign (negsuc n) = negsuc 0

-- the columns after these letters, of which the first has row r
abbrev pub after_letters : ℕ → List Column → List ℤ → List Column
after_letters r columns [] = columns
after_letters r columns (a ∷ letters) = after_letters (r + 1) (after_letter a r columns) letters

-- m open columns, that of position j beginning in row j - 1
abbrev pub feet_columns : ℕ → List Column
feet_columns m = map begun (range_with_len 0 m)

-- the top row of position j in a grid of size n
abbrev pub top_row : ℕ → ℕ → ℕ
top_row n j = n - j

-- the columns of positions m to 1 end in their top rows
abbrev pub ended_at_the_top : ℕ → ℕ → List Column → List Column
ended_at_the_top n zero columns = columns
ended_at_the_top n (suc i) columns = ended_at_the_top n i (at_position (i + 1) (λ c. ended (top_row n (i + 1)) c ∷ []) columns)

-- the closing columns of positions m to 1: that of position j begins in its top row and ends in row j - 1
abbrev pub closing : ℕ → ℕ → List Column
closing n zero = []
closing n (suc i) = ended i (begun (top_row n (i + 1))) ∷ closing n i

abbrev pub closure_size : Word → ℕ
closure_size b = length b.letters + 2 * b.strands

-- all columns of the closure, from left to right
abbrev pub columns : Word → List Column
columns b = ended_at_the_top (closure_size b) b.strands (after_letters b.strands (feet_columns b.strands) b.letters) ++ closing (closure_size b) b.strands

abbrev pub closure : Word → Diagram
closure b = diagram_of (columns b)

-- the columns of the feet, position 1 first: those with an X in rows 0 to m - 1
abbrev pub feet : Word → List ℕ
feet b = map (column_of Cross (closure b)) (range_with_len 0 b.strands)

-- the colours at the feet, position 1 first
abbrev pub at_closure_feet : Word → List ℕ → List ℕ
at_closure_feet b colours = map (slice_index colours) (feet b)

-- the colour of a column of the closure that is known by the row of its X
abbrev pub colour_of_column : Word → List ℕ → Column → ℕ
colour_of_column b colours c = slice_index colours (column_of Cross (closure b) c.x)
