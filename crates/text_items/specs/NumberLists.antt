-- All numbers of a line, and which of them has too many digits.
use Rattle.std.specs.Prelude.{ℕ, Bool, List, Result, nat_lt}
use Rattle.text_lines.specs.Lines.{NumberedLine}
use Rattle.text_lines.specs.NumberTokens.{number_of}
use Rattle.text_items.specs.declared.fault.TextFault.{TextFault}
use Rattle.text_items.specs.declared.reading.TheConstants.{MAX_NUMBER}
use Rattle.text_items.specs.Reading.{each_token}

-- all tokens that are left of a line, as numbers of any size
abbrev pub line_numbers : NumberedLine → Result (List ℕ) TextFault
line_numbers line = each_token number_of line.number line.tokens

-- more digits than a number may have
abbrev pub is_long : ℕ → Bool
is_long value = nat_lt MAX_NUMBER value
