-- No step's first fault is want of memory, so no ruling names it.
use Rattle.std.proofs.Common.{◌≡◌, ◌+◌, ℕ, List, [], ◌∷◌, Bool, true, false, cond, Option, Some, None, ap}
use Rattle.braid_core.specs.Braid.{Word}
use Rattle.braid_moves.specs.declared.step.BraidMove.{BraidMove}
use Rattle.braid_moves.specs.declared.step.BraidMove.TheVariants.{Far, Triple, Cancel, Insert, Turn, Grow, Shrink}
use Rattle.braid_moves.specs.declared.step.BraidMoveFault.{BraidMoveFault}
use Rattle.braid_moves.specs.declared.step.BraidMoveFault.TheVariants.{Range, Shape, Full, OutOfMemory}
use Rattle.braid_moves.specs.declared.ruling.BraidRuling.{BraidRuling}
use Rattle.braid_moves.specs.declared.ruling.BraidRuling.TheVariants.{Accepted, Step, OtherEnd}
use Rattle.braid_moves.specs.Step.{moved}
use Rattle.braid_moves.specs.Fault.{fault_unless, first_step_fault}
use Rattle.braid_moves.specs.Ruling.{are_same_words, by_fault, ruled}

-- it is another fault, or none
abbrev IsFree : Option BraidMoveFault → Type 0
IsFree fault = fault ≡ Some OutOfMemory → ⊥

none_free : IsFree None
none_free e = cc

range_free : IsFree (Some Range)
range_free e = cc

shape_free : IsFree (Some Shape)
shape_free e = cc

full_free : IsFree (Some Full)
full_free e = cc

unless_free : (holds : Bool) (fault : BraidMoveFault) (next : Option BraidMoveFault) → IsFree (Some fault) → IsFree next
    → IsFree (fault_unless holds fault next)
unless_free true fault next here after e = after e
unless_free false fault next here after e = here e

pub never_memory : (w : Word) (step : BraidMove) → IsFree (first_step_fault w step)
never_memory w (Far p) = unless_free _ Range _ range_free (unless_free _ Shape None shape_free none_free)
never_memory w (Triple p) = unless_free _ Range _ range_free (unless_free _ Shape None shape_free none_free)
never_memory w (Cancel p) = unless_free _ Range _ range_free (unless_free _ Shape None shape_free none_free)
never_memory w (Insert place a) = unless_free _ Range _ range_free (unless_free _ Full None full_free none_free)
never_memory w (Turn k) = unless_free _ Range None range_free none_free
never_memory w (Grow positive) = unless_free _ Full None full_free none_free
never_memory w Shrink = unless_free _ Shape None shape_free none_free

-- the fault that a ruling names
abbrev fault_of : BraidRuling → Option BraidMoveFault
fault_of Accepted = None
fault_of (Step place fault) = Some fault
fault_of OtherEnd = None

end_free : (same : Bool) → IsFree (fault_of (cond same Accepted OtherEnd))
end_free true = none_free
end_free false = none_free

fault_free : (fault : Option BraidMoveFault) (place : ℕ) (rest : BraidRuling) → IsFree fault → IsFree (fault_of rest)
    → IsFree (fault_of (by_fault fault place rest))
fault_free (Some fault) place rest here after = here
fault_free None place rest here after = after

ruled_free : (word wanted : Word) (place : ℕ) (steps : List BraidMove) → IsFree (fault_of (ruled word wanted place steps))
ruled_free word wanted place [] = end_free (are_same_words word wanted)
ruled_free word wanted place (step ∷ steps) =
    fault_free (first_step_fault word step) place (ruled (moved word step) wanted (place + 1) steps) (never_memory word step)
    (ruled_free (moved word step) wanted (place + 1) steps)

pub never_ruled : (word wanted : Word) (from : ℕ) (steps : List BraidMove) (place : ℕ) → ruled word wanted from steps ≡ Step place OutOfMemory → ⊥
never_ruled word wanted from steps place e = ruled_free word wanted from steps (ap fault_of e)
