-- Numbers by their digits.
use Rattle.std.specs.Prelude.{ℕ, ◌+◌, ◌*◌, ◌^◌, List, [], ◌∷◌, length}

-- the number with these digits to a base, the highest first
abbrev pub number_to : ℕ → List ℕ → ℕ
number_to base [] = 0
number_to base (digit ∷ digits) = digit * base ^ length digits + number_to base digits
