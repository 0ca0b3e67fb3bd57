-- The first cause for which the evidence of a verdict does not hold.
use Rattle.std.specs.Prelude.{◌≡◌, ◌≢◌, ◌==◌, ◌+◌, ℕ, List, [], ◌∷◌, length, Option, Some, None, if◌then◌else◌}
use Rattle.std.specs.Option.{option_map}
use Rattle.grid_core.specs.Diagram.{Diagram}
use Rattle.grid_core.specs.Parts.{bottoms}
use Rattle.grid_moves.specs.declared.step.Move.{Move}
use Rattle.grid_moves.specs.Joining.{Joins, StopsAt}
use Rattle.quandle_core.specs.Quandle.{Table}
use Rattle.quandle_core.specs.Fault.{or_else}
use Rattle.colour_list.specs.Fits.{fits}
use Rattle.colour_list.specs.Listing.{colourings, lists_of, is_same}
use Rattle.verdict_core.specs.declared.verdict.Verdict.{Verdict}
use Rattle.verdict_core.specs.declared.verdict.Verdict.TheVariants.{Equal, Different, UnknownBudget, UnknownExhausted}
use Rattle.cert_check.specs.declared.ruling.Why.{Why}
use Rattle.cert_check.specs.declared.ruling.Why.TheVariants as why

-- the moves lead from d, but not to e
abbrev pub LeadsElsewhere : Diagram → Diagram → List Move → Type 0
LeadsElsewhere d e moves = (f : Diagram) × (Joins d moves f × (f ≢ e))

-- why the moves do not join d to e: the list stops at an illegal one, or it leads elsewhere
abbrev pub IsCauseOfMoves : Diagram → Diagram → List Move → Why → Type 0
IsCauseOfMoves d e moves (why.Step place fault) = StopsAt d moves place fault
IsCauseOfMoves d e moves why.OtherEnd = LeadsElsewhere d e moves
IsCauseOfMoves d e moves _ = ⊥

-- the first place, counted from 0, at which two lists differ, or at which one of them has ended
abbrev pub first_difference : List (List ℕ) → List (List ℕ) → Option ℕ
first_difference [] [] = None
first_difference [] (b ∷ two) = Some 0
first_difference (a ∷ one) [] = Some 0
first_difference (a ∷ one) (b ∷ two) = if is_same a b then option_map (λ place. place + 1) (first_difference one two) else Some 0

-- the quandle does not fit the diagram of this number
abbrev pub wide : ℕ → Table → Diagram → Option Why
wide which t d = if fits t d then None else Some (why.Wide which (bottoms d))

-- the list of this number is not the complete list of its diagram
abbrev pub list_differs : ℕ → Table → Diagram → List (List ℕ) → Option Why
list_differs which t d given = option_map (λ place. why.List which place) (first_difference given (colourings t d))

-- the lists are equally long
abbrev pub same_length : List (List ℕ) → List (List ℕ) → Option Why
same_length one two = if length one == length two then Some why.SameLength else None

-- the first cause for which the quandle does not tell d and e apart by these lists
abbrev pub cause_of_lists : Table → Diagram → Diagram → List (List ℕ) → List (List ℕ) → Option Why
cause_of_lists t d e one two =
    or_else (wide 1 t d) (or_else (wide 2 t e) (or_else (list_differs 1 t d one) (or_else (list_differs 2 t e two) (same_length one two))))

-- the first cause for which the evidence of a verdict on d and e does not hold
abbrev pub IsVerdictCause : Diagram → Diagram → Verdict → Why → Type 0
IsVerdictCause d e (Equal moves) cause = IsCauseOfMoves d e moves cause
IsVerdictCause d e (Different listed one two) cause = cause_of_lists listed.table d e (lists_of one) (lists_of two) ≡ Some cause
IsVerdictCause d e (UnknownBudget budget) cause = cause ≡ why.NoEvidence
IsVerdictCause d e (UnknownExhausted cap admitted) cause = cause ≡ why.NoEvidence
