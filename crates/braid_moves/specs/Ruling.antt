-- The ruling on a list of steps that is to lead from one braid word to another.
use Rattle.std.specs.Prelude.{ℕ, ◌+◌, ◌==◌, ◌&&◌, Bool, List, [], ◌∷◌, if◌then◌else◌, Option, Some, None}
use Rattle.std.specs.Ordering.{int_eq}
use Rattle.std.specs.Cmp.Lexicographic.{pointwise}
use Rattle.braid_core.specs.Braid.{Word}
use Rattle.braid_moves.specs.Step.{moved}
use Rattle.braid_moves.specs.Fault.{first_step_fault}
use Rattle.braid_moves.specs.declared.step.BraidMove.{BraidMove}
use Rattle.braid_moves.specs.declared.step.BraidMoveFault.{BraidMoveFault}
use Rattle.braid_moves.specs.declared.ruling.BraidRuling.{BraidRuling}
use Rattle.braid_moves.specs.declared.ruling.BraidRuling.TheVariants.{Accepted, Step, OtherEnd}

-- as many strands, and the same letters
abbrev pub are_same_words : Word → Word → Bool
are_same_words v w = (v.strands == w.strands) && pointwise int_eq v.letters w.letters

-- the step of this place has the fault, else what comes after
abbrev pub by_fault : Option BraidMoveFault → ℕ → BraidRuling → BraidRuling
by_fault (Some fault) place rest = Step place fault
by_fault None place rest = rest

-- the first step that is not legal, counted from this place, with its fault; else whether the last word is the wanted one
abbrev pub ruled : Word → Word → ℕ → List BraidMove → BraidRuling
ruled word wanted place [] = if are_same_words word wanted then Accepted else OtherEnd
ruled word wanted place (step ∷ steps) = by_fault (first_step_fault word step) place (ruled (moved word step) wanted (place + 1) steps)

-- the steps are counted from 0
abbrev pub ruling : Word → Word → List BraidMove → BraidRuling
ruling first second steps = ruled first second 0 steps
