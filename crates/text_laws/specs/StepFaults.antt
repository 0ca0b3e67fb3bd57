-- The faults of a step of braid words, case by case.
use Rattle.std.specs.Prelude.{◌≡◌, ◌≢◌, ◌<◌, ◌≤◌, ◌+◌, ◌⊎◌, ℕ, ℤ, Bool, neg_ℤ, unsigned_abs, length}
use Rattle.braid_core.specs.Braid.{Word, IsLetter, IsBraid}
use Rattle.braid_moves.specs.declared.step.BraidMove.{BraidMove}
use Rattle.braid_moves.specs.declared.step.BraidMove.TheVariants.{Far, Triple, Cancel, Insert, Turn, Grow, Shrink}
use Rattle.braid_moves.specs.declared.step.BraidMoveFault.{BraidMoveFault}
use Rattle.braid_moves.specs.declared.step.BraidMoveFault.TheVariants.{Range, Shape, Full, OutOfMemory}
use Rattle.braid_moves.specs.Step.{letter_at, letter_of_crossing, moved}

-- a step names a letter, a place or a turn that is not there
abbrev pub LacksLetters : Word → BraidMove → Type 0
LacksLetters w (Far p) = length w.letters ≤ p + 1
LacksLetters w (Triple p) = length w.letters ≤ p + 2
LacksLetters w (Cancel p) = length w.letters ≤ p + 1
LacksLetters w (Insert place a) = (length w.letters < place) ⊎ (IsLetter w.strands a → ⊥)
LacksLetters w (Turn k) = (k < 1) ⊎ (length w.letters ≤ k)
LacksLetters w (Grow positive) = ⊥
LacksLetters w Shrink = ⊥

-- two crossings have a strand's place in common: those of one are k and k + 1, and so are those of the other
abbrev pub ShareAPlace : ℤ → ℤ → Type 0
ShareAPlace a b = (unsigned_abs a ≤ unsigned_abs b + 1) × (unsigned_abs b ≤ unsigned_abs a + 1)

-- a, b, a with crossings of one sign, at neighbouring places
pub record IsTriple (a b c : ℤ) : Type 0 where
  pub again : c ≡ a
  pub first : ℕ
  pub second : ℕ
  pub positive : Bool
  pub here : a ≡ letter_of_crossing first positive
  pub between : b ≡ letter_of_crossing second positive
  pub beside : (first + 1 ≡ second) ⊎ (second + 1 ≡ first)

-- a word is what a new strand makes of a braid
pub record HasGrown (w : Word) : Type 0 where
  pub before : Word
  pub positive : Bool
  pub braid : IsBraid before
  pub grown : moved before (Grow positive) ≡ w

-- the letters or the strands are not as the step wants them
abbrev pub HasOtherShape : Word → BraidMove → Type 0
HasOtherShape w (Far p) = ShareAPlace (letter_at w p) (letter_at w (p + 1))
HasOtherShape w (Triple p) = IsTriple (letter_at w p) (letter_at w (p + 1)) (letter_at w (p + 2)) → ⊥
HasOtherShape w (Cancel p) = letter_at w (p + 1) ≢ neg_ℤ (letter_at w p)
HasOtherShape w (Insert place a) = ⊥
HasOtherShape w (Turn k) = ⊥
HasOtherShape w (Grow positive) = ⊥
HasOtherShape w Shrink = HasGrown w → ⊥

-- after a step that makes a word longer it is no braid
abbrev pub LacksRoom : Word → BraidMove → Type 0
LacksRoom w (Insert place a) = IsBraid (moved w (Insert place a)) → ⊥
LacksRoom w (Grow positive) = IsBraid (moved w (Grow positive)) → ⊥
LacksRoom w other = ⊥

-- the law fails
abbrev pub IsStepFault : Word → BraidMove → BraidMoveFault → Type 0
IsStepFault w step Range = LacksLetters w step
IsStepFault w step Shape = HasOtherShape w step
IsStepFault w step Full = LacksRoom w step
IsStepFault w step OutOfMemory = ⊥

abbrev pub step_rank : BraidMoveFault → ℕ
step_rank Range = 0
step_rank Shape = 1
step_rank Full = 2
step_rank OutOfMemory = 3

-- a fault of a step names no number
abbrev pub step_number : BraidMoveFault → ℕ
step_number fault = 0
