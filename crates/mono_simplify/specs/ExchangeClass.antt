-- What shifts and exchanges reach: diagrams of one size (Cromwell 1995, Dynnikov 2006). Slides are passed over.
use Rattle.std.specs.Prelude.{◌≡◌, ◌||◌, ℕ, List, Bool, true, None}
use Rattle.std.specs.List.{All}
use Rattle.grid_core.specs.Diagram.{Diagram}
use Rattle.grid_moves.specs.declared.step.Move.{Move}
use Rattle.grid_moves.specs.declared.step.Move.TheVariants.{Destabilise}
use Rattle.grid_moves.specs.MoveFault.{first_move_fault}
use Rattle.grid_moves.specs.Joining.{Joins}
use Rattle.grid_keys.specs.CanonicalForm.{IsCanonicalForm}
use Rattle.grid_moves.specs.Kinds.{is_shift, is_exchange}

abbrev pub is_shift_or_exchange : Move → Bool
is_shift_or_exchange move = is_shift move || is_exchange move

abbrev pub AreShiftsAndExchanges : List Move → Type 0
AreShiftsAndExchanges moves = All (λ move. is_shift_or_exchange move ≡ true) moves

-- some list of shifts and exchanges joins d to e
abbrev pub JoinedByExchanges : Diagram → Diagram → Type 0
JoinedByExchanges d e = (moves : List Move) × (AreShiftsAndExchanges moves × Joins d moves e)

-- f is in the class of d: the canonical form of a diagram that shifts and exchanges reach from d
pub record IsInClass (d f : Diagram) : Type 0 where
  pub reached : Diagram
  pub joined : JoinedByExchanges d reached
  pub form : IsCanonicalForm reached f

-- some destabilisation is legal on d
pub record MayDestabilise (d : Diagram) : Type 0 where
  pub column : ℕ
  pub row : ℕ
  pub legal : first_move_fault d (Destabilise column row) ≡ None

-- no diagram that shifts and exchanges reach from d has a legal destabilisation
abbrev pub IsIrreducible : Diagram → Type 0
IsIrreducible d = (e : Diagram) → JoinedByExchanges d e → MayDestabilise e → ⊥
