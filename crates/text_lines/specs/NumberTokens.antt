-- Numbers written in decimal.
use Rattle.std.specs.Prelude.{ℕ, ◌==◌, ◌&&◌, Bool, false, List, [], ◌∷◌, length, nat_le, nat_lt, if◌then◌else◌, Option, Some, None}
use Rattle.std.specs.List.{list_all}
use Rattle.std.specs.Str.Parse.{digits_value}
use Rattle.text_lines.specs.declared.numbers.TheConstants.{MAX_DIGITS, OVERLONG}

abbrev pub is_digit : ℕ → Bool
is_digit b = nat_le 48 b && nat_le b 57

-- `0`, or a digit from 1 to 9 and any digits
abbrev pub is_number : List ℕ → Bool
is_number [] = false
is_number (d ∷ ds) = if d == 48 then length ds == 0 else is_digit d && list_all is_digit ds

-- the number that a token writes; OVERLONG, above every limit, stands for each one of more than MAX_DIGITS digits
abbrev pub number_of : List ℕ → Option ℕ
number_of token =
    if is_number token then Some (if nat_lt MAX_DIGITS (length token) then OVERLONG else digits_value 10 token)
    else None
