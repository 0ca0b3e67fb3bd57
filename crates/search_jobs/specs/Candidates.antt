-- The moves among which a word picks: the legal ones but slides whose result is not too large, in order.
use Rattle.std.specs.Prelude.{◌&&◌, Bool, List, filter, nat_le}
use Rattle.std.specs.Option.{is_none}
use Rattle.grid_core.specs.Diagram.{Diagram, size}
use Rattle.grid_moves.specs.declared.step.Move.{Move}
use Rattle.grid_moves.specs.MoveFault.{first_move_fault}
use Rattle.grid_moves.specs.MoveLists.{all_but_slides}
use Rattle.grid_moves.specs.SizeAfter.{size_after}
use Rattle.search_jobs.specs.declared.walk.TheConstants.{LARGEST}

-- the move is legal, and its result is not larger than LARGEST
abbrev pub is_candidate : Diagram → Move → Bool
is_candidate d move = is_none (first_move_fault d move) && nat_le (size_after move (size d)) LARGEST

-- those of all moves but slides that are candidates, in order
abbrev pub candidate_moves : Diagram → List Move
candidate_moves d = filter (is_candidate d) (all_but_slides (size d))
