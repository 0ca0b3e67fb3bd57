-- Steps between braids as a text: a line each, behind a line with their number.
use Rattle.std.specs.Prelude.{ℕ, ℤ, unsigned_abs, List, codes, true, false, Result, Ok, Err, nat_le, if◌then◌else◌}
use Rattle.std.specs.Str.{bytes_eq}
use Rattle.braid_moves.specs.declared.step.BraidMove.{BraidMove}
use Rattle.braid_moves.specs.declared.step.BraidMove.TheVariants.{Far, Triple, Cancel, Insert, Turn, Grow, Shrink}
use Rattle.text_lines.specs.Lines.{NumberedLine, Text}
use Rattle.text_items.specs.declared.fault.TextFault.{TextFault}
use Rattle.text_items.specs.declared.fault.TextFault.TheVariants.{Malformed, Limit}
use Rattle.text_items.specs.declared.reading.TheConstants.{MAX_PLACE, MAX_LETTER}
use Rattle.text_items.specs.Reading.{◌>>=◌, in_turn, next_line, next_token, line_end, or_malformed, word, number, last_count, at_most}
use Rattle.text_items.specs.Braids.{letter_of}
use Rattle.verdict_text.specs.Moves.{one_place}

-- a letter of any size, and no token behind it
unfoldable pub last_letter : NumberedLine → Result (ℤ × NumberedLine) TextFault
last_letter line = do
  token ← next_token line
  letter ← or_malformed line.number (letter_of token.0)
  end ← line_end token.1
  Ok (letter, end)

-- a letter of line n that exceeds a limit where its absolute value is above the most
abbrev pub bounded_letter : ℕ → ℤ → Result ℤ TextFault
bounded_letter n letter = if nat_le (unsigned_abs letter) MAX_LETTER then Ok letter else Err (Limit n)

-- a place and a letter, behind `insert`
unfoldable pub insert : NumberedLine → Result BraidMove TextFault
insert line = do
  value ← number line
  last ← last_letter value.1
  place ← at_most MAX_PLACE last.1.number value.0
  letter ← bounded_letter last.1.number last.0
  Ok (Insert place letter)

-- the sign of the new crossing, behind `grow`
unfoldable pub grow : NumberedLine → Result BraidMove TextFault
grow line = do
  sign ← next_token line
  end ← line_end sign.1
  if bytes_eq sign.0 (codes "plus") then Ok (Grow true)
      else if bytes_eq sign.0 (codes "minus") then Ok (Grow false)
      else Err (Malformed end.number)

-- nothing, behind `shrink`
unfoldable pub shrink : NumberedLine → Result BraidMove TextFault
shrink line = do
  end ← line_end line
  Ok Shrink

-- a step line
unfoldable pub step_at : NumberedLine → Result BraidMove TextFault
step_at line = do
  name ← next_token line
  if bytes_eq name.0 (codes "far") then one_place (λ p. Far p) name.1
      else if bytes_eq name.0 (codes "triple") then one_place (λ p. Triple p) name.1
      else if bytes_eq name.0 (codes "cancel") then one_place (λ p. Cancel p) name.1
      else if bytes_eq name.0 (codes "insert") then insert name.1
      else if bytes_eq name.0 (codes "turn") then one_place (λ k. Turn k) name.1
      else if bytes_eq name.0 (codes "grow") then grow name.1
      else if bytes_eq name.0 (codes "shrink") then shrink name.1
      else Err (Malformed name.1.number)

-- the next step line
unfoldable pub braid_step_item : Text → Result (BraidMove × Text) TextFault
braid_step_item text = do
  line ← next_line text
  step ← step_at line.0
  Ok (step, line.1)

-- so many steps, a line each
abbrev pub step_lines : ℕ → Text → Result (List BraidMove × Text) TextFault
step_lines count text = in_turn braid_step_item count text

-- the item `steps`
unfoldable pub steps_item : Text → Result (List BraidMove × Text) TextFault
steps_item text = do
  line ← next_line text
  rest ← word (codes "steps") line.0
  count ← last_count rest
  step_lines count line.1
