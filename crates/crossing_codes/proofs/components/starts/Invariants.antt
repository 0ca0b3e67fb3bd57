use Rattle.std.proofs.Common.{◌≡◌, ◌<◌, ◌≤◌, ◌==◌, ℕ, false, get_or, length}
use Rattle.std.specs.List.{All, list_any}
use Rattle.grid_core.specs.declared.grid.TheConstants.{MAX_SIZE}
use Rattle.grid_core.specs.Diagram.{size}
use Rattle.crossing_codes.proofs.StartSteps.{so_far, reached}
use Rattle.crossing_codes.proofs.components.starts.Given as goal

abbrev pub invariant-loop-column : goal.invariant-loop-column
invariant-loop-column l = record {
  starts : l.starts.items ≡ so_far l.layout l.column;
  inside : All (λ c. c < size l.layout) l.starts.items;
  long : length l.seen ≡ MAX_SIZE;
  few : length l.starts.items ≤ l.column;
  seen : (k : ℕ) → k < size l.layout → get_or l.seen k false ≡ list_any (λ b. b == k) (reached l.layout l.column);
}
