-- The four corners of a block of two columns and two rows, by their column and their row in the block.
use Rattle.std.specs.Prelude.{ℕ, List, [], ◌∷◌}
use Rattle.grid_core.specs.declared.mark.Corner.{Corner}
use Rattle.grid_core.specs.declared.mark.Corner.TheVariants.{LowLeft, LowRight, HighLeft, HighRight}

-- 0 for the left column of the block, 1 for the right one
abbrev pub corner_column : Corner → ℕ
corner_column LowLeft = 0
corner_column LowRight = 1
corner_column HighLeft = 0
corner_column HighRight = 1

-- 0 for the lower row of the block, 1 for the higher one
abbrev pub corner_row : Corner → ℕ
corner_row LowLeft = 0
corner_row LowRight = 0
corner_row HighLeft = 1
corner_row HighRight = 1

-- all four in order: the lower ones first, and of two the left one
abbrev pub corners : List Corner
corners = LowLeft ∷ LowRight ∷ HighLeft ∷ HighRight ∷ []
