use Rattle.grid_core.specs.Diagram.{Diagram}
use Rattle.grid_moves.specs.Joining.{Joins}
use Rattle.meeting_walks.proofs.spelling.push_path.Given as goal

abbrev pub invariant-loop-place : goal.invariant-loop-place
invariant-loop-place l = (d : Diagram) → Joins d l.fn.moves.items l.first → Joins d l.moves.items l.here
