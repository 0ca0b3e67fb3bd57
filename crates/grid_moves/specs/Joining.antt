-- Lists of moves. Cromwell (1995) and Dynnikov (2006) prove that without a bound on the size the diagrams that their moves,
-- all but slides, join are those of one link; a slide is made of their moves. Sizes here are bounded, so diagrams that are
-- joined here are of one link, and no more is said.
use Rattle.std.specs.Prelude.{◌≡◌, ◌≤◌, ℕ, List, [], ◌∷◌, take, slice_get, Some}
use Rattle.grid_core.specs.Diagram.{Diagram, size}
use Rattle.grid_moves.specs.declared.step.Move.{Move}
use Rattle.grid_moves.specs.declared.step.MoveFault.{MoveFault}
use Rattle.grid_moves.specs.MoveFault.{first_move_fault}
use Rattle.grid_moves.specs.Step.{Step}

-- the moves, one after another, lead from d to e; no move leads from d to d
abbrev pub Joins : Diagram → List Move → Diagram → Type 0
Joins d [] e = d ≡ e
Joins d (move ∷ moves) e = (f : Diagram) × (Step d move f × Joins f moves e)

-- and no diagram on the way, both ends included, is larger than the cap
abbrev pub JoinsWithin : ℕ → Diagram → List Move → Diagram → Type 0
JoinsWithin cap d [] e = (size d ≤ cap) × (d ≡ e)
JoinsWithin cap d (move ∷ moves) e = (size d ≤ cap) × ((f : Diagram) × (Step d move f × JoinsWithin cap f moves e))

-- some list of moves joins them
abbrev pub Equivalent : Diagram → Diagram → Type 0
Equivalent d e = (moves : List Move) × Joins d moves e

-- some list of moves joins them within the cap
abbrev pub WithinCap : Diagram → Diagram → ℕ → Type 0
WithinCap d e cap = (moves : List Move) × JoinsWithin cap d moves e

-- the first illegal move: those before its place lead somewhere, and there it has this fault
pub record StopsAt (d : Diagram) (moves : List Move) (place : ℕ) (fault : MoveFault) : Type 0 where
  pub here : Diagram
  pub joined : Joins d (take place moves) here
  pub move : Move
  pub next : slice_get moves place ≡ Some move
  pub illegal : first_move_fault here move ≡ Some fault
