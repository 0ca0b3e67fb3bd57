-- What is asked of the numbers of a problem.
use Rattle.std.specs.Prelude.{◌≤◌}
use Rattle.grid_core.specs.declared.grid.TheConstants.{MAX_SIZE}
use Rattle.grid_core.specs.Diagram.{size}
use Rattle.search_book.specs.declared.problem.TheConstants.{MAX_BUDGET}
use Rattle.search_book.specs.declared.problem.Problem.{Problem}

-- both diagrams fit the cap, the cap is a size of grids, and the budget lies between two and the greatest one
pub record IsBounded (p : Problem) : Type 0 where
  pub first_fits : size p.first ≤ p.cap
  pub second_fits : size p.second ≤ p.cap
  pub cap : p.cap ≤ MAX_SIZE
  pub two : 2 ≤ p.budget
  pub most : p.budget ≤ MAX_BUDGET
