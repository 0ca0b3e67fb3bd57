-- Lists of moves, undone.
use Rattle.std.specs.Prelude.{◌≡◌, ◌++◌, ◌∷◌, [], List}
use Rattle.grid_core.specs.Diagram.{Diagram}
use Rattle.grid_moves.specs.declared.step.Move.{Move}
use Rattle.grid_moves.specs.Inverse.{inverse_of}
use Rattle.grid_moves.specs.Step.{Step}

-- the moves lead from d to e, and are undone by these: their inverses, from the last move to the first
abbrev pub Undone : Diagram → List Move → Diagram → List Move → Type 0
Undone d [] e back = (d ≡ e) × (back ≡ [])
Undone d (move ∷ moves) e back = (f : Diagram) × ((rest : List Move) × (Step d move f × Undone f moves e rest × (back ≡ rest ++ inverse_of d move ∷ [])))
