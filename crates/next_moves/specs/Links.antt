-- A link, written as a list of moves.
use Rattle.std.specs.Prelude.{List, [], ◌∷◌, ◌++◌}
use Rattle.grid_moves.specs.declared.step.Move.{Move}
use Rattle.grid_keys.specs.Shifts.{shift_moves}
use Rattle.next_moves.specs.declared.links.Link.{Link}

-- the shifts before, the move, and the shifts after, where a shift by 0 is left out
abbrev pub link_moves : Link → List Move
link_moves link = shift_moves link.before.0 link.before.1 ++ link.step ∷ [] ++ shift_moves link.after.0 link.after.1
