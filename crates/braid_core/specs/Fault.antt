-- The first reason why a number of strands and a list of letters are no braid.
use Rattle.std.specs.Prelude.{◌+◌, ◌*◌, ◌&&◌, ℕ, ℤ, Bool, not, length, nat_lt, nat_le, if◌then◌else◌, Option, Some, None, unsigned_abs}
use Rattle.std.specs.List.{position}
use Rattle.grid_core.specs.declared.grid.TheConstants.{MAX_SIZE}
use Rattle.grid_core.specs.Fault.{or_next}
use Rattle.braid_core.specs.Braid.{Word}
use Rattle.braid_core.specs.declared.braid.TheConstants.{MAX_STRANDS}
use Rattle.braid_core.specs.declared.fault.BraidFault.{BraidFault}
use Rattle.braid_core.specs.declared.fault.BraidFault.TheVariants.{Strands, Letter, Size}

-- 0, or of an absolute value that is not below the number of strands
abbrev pub is_outside_strands : ℕ → ℤ → Bool
is_outside_strands m a = not (nat_le 1 (unsigned_abs a) && nat_lt (unsigned_abs a) m)

-- strands, the first bad letter, size, in this order
abbrev pub first_word_fault : Word → Option BraidFault
first_word_fault b =
    if not (nat_le 1 b.strands && nat_le b.strands MAX_STRANDS) then Some Strands
    else or_next (position (is_outside_strands b.strands) b.letters) (λ place. Letter place)
    (if nat_lt MAX_SIZE (length b.letters + 2 * b.strands) then Some Size else None)
