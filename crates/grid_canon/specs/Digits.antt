-- Numbers by their digits to the base of short grids.
use Rattle.std.specs.Prelude.{ℕ, zero, suc, ◌≡◌, ◌<◌, ◌/◌, ◌%◌, ◌^◌, List, [], ◌∷◌, map, slice_index, nat_lt, if◌then◌else◌}
use Rattle.std.specs.List.{range_with_len}
use Rattle.grid_moves.specs.Shift.{shifted}
use Rattle.grid_canon.specs.declared.digits.TheConstants.{SHORT_BASE, GUARD}
use Rattle.grid_keys.specs.KeyNumbers.{number_to}

-- the number with these digits to the base of short grids
abbrev pub short_number : List ℕ → ℕ
short_number digits = number_to SHORT_BASE digits

-- the n digits to this base, the highest first, of a number that has no more
abbrev pub digits : ℕ → ℕ → List ℕ
digits zero value = []
digits (suc n) value = value / SHORT_BASE ^ n ∷ digits n (value % SHORT_BASE ^ n)

-- the rows of n columns, each lower by another, round the circle of n; only private clauses and proofs cite what follows
abbrev pub lowered_each : ℕ → List ℕ → List ℕ → List ℕ
lowered_each n rows by = map (λ c. shifted n (slice_index by c) (slice_index rows c)) (range_with_len 0 n)

-- the mark of a digit below a bound
abbrev pub mark : ℕ → ℕ → ℕ
mark bound digit = if nat_lt digit bound then GUARD else 0

-- of the n digits of a number those below some bound are marked, and there are some
pub record AreLowDigits (n value marks : ℕ) : Type 0 where
  pub bound : ℕ
  pub some : 0 < marks
  pub marked : marks ≡ short_number (map (mark bound) (digits n value))
