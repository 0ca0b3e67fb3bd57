-- Where a quandle keeps its operations: the column of y lies together.
use Rattle.std.specs.Prelude.{ℕ, ◌+◌, ◌*◌, List, slice_index}
use Rattle.quandle_core.specs.declared.quandle.TheConstants.{MAX_ORDER}
use Rattle.quandle_core.specs.Tables.{table_of}

-- the entry for x in the column of y, where columns lie so many places apart
abbrev pub cell_at : ℕ → List ℕ → ℕ → ℕ → ℕ
cell_at stride cells x y = slice_index cells (y * stride + x)

-- the same where columns lie MAX_ORDER places apart
abbrev pub cell : List ℕ → ℕ → ℕ → ℕ
cell = cell_at MAX_ORDER

-- the columns of an operation on the numbers below n, one behind the other
abbrev pub operation_columns : ℕ → (ℕ → ℕ → ℕ) → List ℕ
operation_columns n f = (table_of n (λ y x. f x y)).entries
