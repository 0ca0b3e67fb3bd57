-- Grids whose rows are the digits of two numbers.
use Rattle.std.specs.Prelude.{ℕ, ◌<◌, ◌≤◌, ◌^◌}
use Rattle.grid_core.specs.Diagram.{Diagram, IsGrid}
use Rattle.grid_canon.specs.declared.digits.TheConstants.{MAX_SHORT_SIZE, SHORT_BASE}
use Rattle.grid_canon.specs.Digits.{digits}

-- the diagram of n columns whose rows are the digits of the two numbers, those of the Xs and those of the Os
abbrev pub of_digits : ℕ → ℕ → ℕ → Diagram
of_digits n crosses rings = record { x = digits n crosses; o = digits n rings }

-- it is a grid of few columns, and the numbers have no more digits
pub record IsShort (n crosses rings : ℕ) : Type 0 where
  pub most : n ≤ MAX_SHORT_SIZE
  pub crosses_fit : crosses < SHORT_BASE ^ n
  pub rings_fit : rings < SHORT_BASE ^ n
  pub grid : IsGrid (of_digits n crosses rings)
