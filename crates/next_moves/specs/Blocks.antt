-- The rows at which blocks of two neighbouring columns are tried; only private clauses and proofs cite this file.
use Rattle.std.specs.Prelude.{◌==◌, ◌++◌, ◌∷◌, [], ℕ, List, map, if◌then◌else◌, nat_lt}
use Rattle.grid_core.specs.declared.mark.Kind.TheVariants.{Cross, Ring}
use Rattle.grid_core.specs.Diagram.{Diagram, size, row_of}
use Rattle.grid_canon.specs.ShortTrades.{next}
use Rattle.next_moves.specs.Tries.{Try, try_destabilisation}

-- the first of the two rows where they are neighbours on the circle, else n
abbrev pub first_of_pair : ℕ → ℕ → ℕ → ℕ
first_of_pair n x o = if next n x == o then x else if next n o == x then o else n

-- the row of a block of two rows with both marks of column c, if there is one
abbrev pub row_of_both : Diagram → ℕ → ℕ
row_of_both d c = first_of_pair (size d) (row_of Cross d c) (row_of Ring d c)

-- this number, where it is below n
abbrev pub if_below : ℕ → ℕ → List ℕ
if_below n r = if nat_lt r n then r ∷ [] else []

-- the block of column c and the next one at row r, where r is a row
abbrev pub block_try_at : ℕ → ℕ → ℕ → List Try
block_try_at n c r = map (try_destabilisation n c) (if_below n r)

-- the blocks of column c and the next one at two rows, where these are rows
abbrev pub block_tries_at : ℕ → ℕ → ℕ → ℕ → List Try
block_tries_at n c first second = map (try_destabilisation n c) (if_below n first ++ if_below n second)

-- 1 where r is this row, else 0
abbrev pub one_if_at : ℕ → ℕ → ℕ
one_if_at row r = if r == row then 1 else 0

-- 1 where this row is below r, else 0
abbrev pub one_if_above : ℕ → ℕ → ℕ
one_if_above row r = if nat_lt row r then 1 else 0
