-- What the inverse of a destabilisation reads off the marks of a block of two columns and two rows.
use Rattle.std.specs.Prelude.{◌+◌, ◌==◌, ◌&&◌, ◌||◌, ℕ, Bool, not, if◌then◌else◌}
use Rattle.grid_core.specs.declared.mark.Kind.{Kind}
use Rattle.grid_core.specs.declared.mark.Kind.TheVariants.{Cross, Ring}
use Rattle.grid_core.specs.declared.mark.Corner.{Corner}
use Rattle.grid_core.specs.declared.mark.Corner.TheVariants.{LowLeft, LowRight, HighLeft, HighRight}
use Rattle.grid_core.specs.Diagram.{Diagram, row_of}

-- row s is one of the block's rows, r and r + 1
abbrev pub is_block_row : ℕ → ℕ → Bool
is_block_row r s = (s == r) || (s == r + 1)

-- of a block of three marks, the kind of two of them
abbrev pub block_kind : Diagram → ℕ → ℕ → Kind
block_kind d c r = if is_block_row r (row_of Ring d c) && is_block_row r (row_of Ring d (c + 1)) then Ring else Cross

-- whether the column with two of the marks is the right one
abbrev pub corner_is_right : Diagram → ℕ → ℕ → Bool
corner_is_right d c r = not (is_block_row r (row_of Cross d c) && is_block_row r (row_of Ring d c))

-- the corner on this side, above or below
abbrev pub corner_on : Bool → Bool → Corner
corner_on right above =
    if right then if above then HighRight else LowRight else if above then HighLeft else LowLeft

-- of a block of three marks, the corner opposite the empty cell
abbrev pub block_corner : Diagram → ℕ → ℕ → Corner
block_corner d c r =
    corner_on (corner_is_right d c r) (row_of (block_kind d c r) d (if corner_is_right d c r then c + 1 else c) == r)
