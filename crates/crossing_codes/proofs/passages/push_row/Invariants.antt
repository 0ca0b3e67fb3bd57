use Rattle.std.proofs.Common.{◌≡◌, ◌++◌, ℕ, map, false}
use Rattle.grid_core.specs.Parts.{covers}
use Rattle.crossing_codes.specs.Passages.{through}
use Rattle.crossing_codes.proofs.Crossings.{cell}
use Rattle.crossing_codes.proofs.FollowSteps.{met}
use Rattle.crossing_codes.proofs.passages.push_row.Given as goal

abbrev pub invariant-loop-done : goal.invariant-loop-done
invariant-loop-done l = l.out.items ≡ l.fn.out.items ++ map (λ (c : ℕ). through false (cell c l.row)) (met l.right (λ c. covers l.layout c l.row) l.span l.done)
