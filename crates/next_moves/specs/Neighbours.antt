-- Neighbours: what one move makes of a diagram, whichever way its torus is cut open (Cromwell 1995, Dynnikov 2006).
use Rattle.std.specs.Prelude.{◌≡◌, ◌≤◌, ℕ, false}
use Rattle.std.specs.List.{Contains}
use Rattle.grid_core.specs.Diagram.{Diagram, size}
use Rattle.grid_moves.specs.declared.step.Move.{Move}
use Rattle.grid_moves.specs.Step.{Step}
use Rattle.grid_moves.specs.Kinds.{is_shift}
use Rattle.grid_keys.specs.Translation.{translates}
use Rattle.grid_keys.specs.CanonicalForm.{IsCanonicalForm}

-- some translate of d goes, by one move that is no shift, to a diagram of size at most the cap whose canonical form is f
pub record IsNeighbour (d : Diagram) (cap : ℕ) (f : Diagram) : Type 0 where
  pub before : Diagram
  pub translated : Contains (translates d) before
  pub move : Move
  pub no_shift : is_shift move ≡ false
  pub after : Diagram
  pub step : Step before move after
  pub small : size after ≤ cap
  pub form : IsCanonicalForm after f
