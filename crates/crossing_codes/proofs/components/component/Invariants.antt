use Rattle.std.proofs.Common.{◌≡◌, ◌≢◌, ◌<◌, ◌+◌, ℕ, length}
use Rattle.std.specs.List.{All}
use Rattle.grid_core.specs.Diagram.{size}
use Rattle.crossing_codes.specs.Components.{column_after}
use Rattle.crossing_codes.proofs.FollowSteps.{walked}
use Rattle.crossing_codes.proofs.components.component.Given as goal

abbrev pub invariant-loop : goal.invariant-loop
invariant-loop l = record {
  columns : l.columns.items ≡ walked l.layout l.start l.counter;
  column : l.column ≡ column_after l.layout l.counter l.start;
  inside : l.column < size l.layout;
  all : All (λ c. c < size l.layout) l.columns.items;
  long : length l.columns.items ≡ l.counter;
  away : (k : ℕ) → k < l.counter → column_after l.layout (k + 1) l.start ≢ l.start;
}
