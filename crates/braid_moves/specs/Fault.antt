-- The first reason why a step is not legal on a braid word of m strands and l letters.
use Rattle.std.specs.Prelude.{◌+◌, ◌-◌, ◌*◌, ◌==◌, ◌&&◌, ◌||◌, ℤ, pos, negsuc, neg_ℤ, unsigned_abs, Bool, true, false, not, length, take, nat_lt, nat_le}
use Rattle.std.specs.Prelude.{if◌then◌else◌, Option, Some, None}
use Rattle.std.specs.List.{list_all}
use Rattle.std.specs.Ordering.{int_eq}
use Rattle.grid_core.specs.declared.grid.TheConstants.{MAX_SIZE}
use Rattle.braid_core.specs.Braid.{Word}
use Rattle.braid_core.specs.Fault.{is_outside_strands}
use Rattle.braid_core.specs.declared.braid.TheConstants.{MAX_STRANDS}
use Rattle.braid_moves.specs.declared.step.BraidMove.{BraidMove}
use Rattle.braid_moves.specs.declared.step.BraidMove.TheVariants.{Far, Triple, Cancel, Insert, Turn, Grow, Shrink}
use Rattle.braid_moves.specs.declared.step.BraidMoveFault.{BraidMoveFault}
use Rattle.braid_moves.specs.declared.step.BraidMoveFault.TheVariants.{Range, Shape, Full}
use Rattle.braid_moves.specs.Step.{letter_at}

-- the absolute values of two letters differ by 2 or more: they cross no strand in common
abbrev pub are_far : ℤ → ℤ → Bool
are_far a b = nat_le (unsigned_abs a + 2) (unsigned_abs b) || nat_le (unsigned_abs b + 2) (unsigned_abs a)

-- a negative crossing
abbrev pub is_negative : ℤ → Bool
is_negative (pos k) = false
is_negative (negsuc k) = true

-- three letters are a, b, a, where a and b have one sign and absolute values that differ by 1
abbrev pub are_triple : ℤ → ℤ → ℤ → Bool
are_triple a b c =
    int_eq c a && (if is_negative a then is_negative b else not (is_negative b))
    && ((unsigned_abs a + 1 == unsigned_abs b) || (unsigned_abs b + 1 == unsigned_abs a))

-- m is 2 or more, the last letter is m-1 or its negative, and no other letter has this absolute value:
-- of all letters the last alone crosses the last strand
abbrev pub may_shrink : Word → Bool
may_shrink w =
    nat_le 2 w.strands && nat_lt 0 (length w.letters) && (unsigned_abs (letter_at w (length w.letters - 1)) == w.strands - 1)
    && list_all (λ a. not (unsigned_abs a == w.strands - 1)) (take (length w.letters - 1) w.letters)

-- the fault unless the condition holds, and then what comes after
abbrev pub fault_unless : Bool → BraidMoveFault → Option BraidMoveFault → Option BraidMoveFault
fault_unless holds fault next = if holds then next else Some fault

-- first that letters and places are there, then the condition on letters and strands, then the room
abbrev pub first_step_fault : Word → BraidMove → Option BraidMoveFault
first_step_fault w (Far p) = fault_unless (nat_lt (p + 1) (length w.letters)) Range (fault_unless (are_far (letter_at w p) (letter_at w (p + 1))) Shape None)
first_step_fault w (Triple p) =
    fault_unless (nat_lt (p + 2) (length w.letters)) Range
    (fault_unless (are_triple (letter_at w p) (letter_at w (p + 1)) (letter_at w (p + 2))) Shape None)
first_step_fault w (Cancel p) =
    fault_unless (nat_lt (p + 1) (length w.letters)) Range (fault_unless (int_eq (letter_at w (p + 1)) (neg_ℤ (letter_at w p))) Shape None)
first_step_fault w (Insert place a) =
    fault_unless (nat_le place (length w.letters) && not (is_outside_strands w.strands a)) Range
    (fault_unless (nat_le (length w.letters + 2 + 2 * w.strands) MAX_SIZE) Full None)
first_step_fault w (Turn k) = fault_unless (nat_lt 0 k && nat_lt k (length w.letters)) Range None
first_step_fault w (Grow positive) = fault_unless (nat_lt w.strands MAX_STRANDS && nat_le (length w.letters + 3 + 2 * w.strands) MAX_SIZE) Full None
first_step_fault w Shrink = fault_unless (may_shrink w) Shape None
