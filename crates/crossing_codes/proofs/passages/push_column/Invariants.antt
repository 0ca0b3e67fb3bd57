use Rattle.std.proofs.Common.{◌≡◌, ◌++◌, ℕ, map, true}
use Rattle.grid_core.specs.Span.{lies_within}
use Rattle.grid_core.specs.Parts.{ends}
use Rattle.crossing_codes.specs.Passages.{through}
use Rattle.crossing_codes.proofs.Crossings.{cell}
use Rattle.crossing_codes.proofs.FollowSteps.{met}
use Rattle.crossing_codes.proofs.passages.push_column.Given as goal

abbrev pub invariant-loop-done : goal.invariant-loop-done
invariant-loop-done l =
    l.out.items ≡ l.fn.out.items ++ map (λ (r : ℕ). through true (cell l.column r)) (met l.up (λ r. lies_within (ends l.layout r) l.column) l.span l.done)
