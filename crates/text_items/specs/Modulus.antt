-- The modulus of a cocycle as a text: `weight` with it.
use Rattle.std.specs.Prelude.{ℕ, codes, Result, Ok, Err, nat_le, if◌then◌else◌}
use Rattle.text_lines.specs.Lines.{NumberedLine}
use Rattle.text_items.specs.declared.fault.TextFault.{TextFault}
use Rattle.text_items.specs.declared.fault.TextFault.TheVariants.{Malformed}
use Rattle.text_items.specs.declared.modulus.TheConstants.{MAX_MODULUS}
use Rattle.text_items.specs.Reading.{◌>>=◌, word, last_number, at_most}

-- the line of a modulus: first its form, then its limit, then its content, which is at least 2
unfoldable pub modulus_at : NumberedLine → Result ℕ TextFault
modulus_at line = do
  rest ← word (codes "weight") line
  value ← last_number rest
  modulus ← at_most MAX_MODULUS value.1.number value.0
  if nat_le 2 modulus then Ok modulus else Err (Malformed value.1.number)
