-- Moves with the shifts before them lead on.
use Rattle.std.proofs.Common.{◌≡◌, ◌<◌, ◌++◌, ◌∷◌, [], ℕ, List, sym, subst}
use Rattle.grid_core.specs.Diagram.{Diagram, IsGrid, size}
use Rattle.grid_moves.specs.declared.step.Move.{Move}
use Rattle.grid_moves.specs.Step.{Step}
use Rattle.grid_moves.specs.Joining.{Joins}
use Rattle.grid_moves.proofs.Joined.{joins_push, joins_append}
use Rattle.grid_keys.specs.Shifts.{shift_moves}
use Rattle.grid_keys.specs.Translation.{translate}
use Rattle.grid_keys.proofs.Joined.{shifts_joined}

-- a move of a translate, behind its shifts
pub shifted_joined : (d e : Diagram) (a b : ℕ) (move : Move) → IsGrid d → a < size d → b < size d → Step (translate d a b) move e
    → Joins d (shift_moves a b ++ move ∷ []) e
shifted_joined d e a b move grid ha hb step = joins_push (shift_moves a b) move d (translate d a b) e (shifts_joined d a b grid ha hb) step

-- a list that is put behind another one
pub joined_on : (old back all : List Move) (d e f : Diagram) → all ≡ old ++ back → Joins d old e → Joins e back f → Joins d all f
joined_on old back all d e f list one two = subst (λ ms. Joins d ms f) (sym list) (joins_append old back d e f one two)

-- the shifts to a translate, put behind a list
pub shifts_on : (old all : List Move) (d e f : Diagram) (a b : ℕ) → IsGrid e → a < size e → b < size e → translate e a b ≡ f → all ≡ old ++ shift_moves a b
    → Joins d old e → Joins d all f
shifts_on old all d e f a b grid ha hb same list one =
    joined_on old (shift_moves a b) all d e f list one (subst (λ g. Joins e (shift_moves a b) g) same (shifts_joined e a b grid ha hb))
