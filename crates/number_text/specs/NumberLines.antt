-- Lines of evidence by numbers: of one diagram the seeds and numbers of its colourings, or its components and linking numbers.
use Rattle.std.specs.Prelude.{ℕ, ℤ, ◌==◌, List, map, length, codes, Result, Ok, Err, if◌then◌else◌}
use Rattle.std.specs.List.{list_any}
use Rattle.arrayvec.specs.ArrayVec.{ArrayVec}
use Rattle.text_lines.specs.Lines.{NumberedLine, Text}
use Rattle.text_items.specs.declared.fault.TextFault.{TextFault}
use Rattle.text_items.specs.declared.fault.TextFault.TheVariants.{Malformed, Limit}
use Rattle.text_items.specs.Reading.{◌>>=◌, next_line, word, last_count}
use Rattle.text_items.specs.NumberLists.{line_numbers, is_long}
use Rattle.text_items.specs.Numbers.{numbers_behind, low}
use Rattle.text_items.specs.Braids.{letters, is_long_letter}
use Rattle.evidence_core.specs.declared.evidence.Counted.{Counted}
use Rattle.evidence_core.specs.declared.evidence.Linked.{Linked}

-- `seeds`, and at most MAX_SIZE numbers; one above 254 stands for 255, which is no column
unfoldable pub seeds_at : NumberedLine → Result (ArrayVec ℕ) TextFault
seeds_at line = do
  values ← numbers_behind (codes "seeds") line
  Ok (record { items = map low values })

-- `numbers`, and so many numbers: first their form, then their digits, then how many they are
unfoldable pub numbers_line_at : ℕ → NumberedLine → Result (List ℕ) TextFault
numbers_line_at count line = do
  rest ← word (codes "numbers") line
  values ← line_numbers rest
  if list_any is_long values then Err (Limit rest.number) else if length values == count then Ok values else Err (Malformed rest.number)

-- the seeds of a diagram, and behind them so many numbers
unfoldable pub seeded_numbers_item : ℕ → Text → Result (Counted × Text) TextFault
seeded_numbers_item count text = do
  one ← next_line text
  seeds ← seeds_at one.0
  two ← next_line one.1
  list ← numbers_line_at count two.0
  Ok (record { seeds = seeds; numbers = list }, two.1)

-- `components`, and a number
unfoldable pub components_at : NumberedLine → Result ℕ TextFault
components_at line = do
  rest ← word (codes "components") line
  last_count rest

-- linking numbers: `numbers`, and any number of numbers, negative or not
unfoldable pub linking_numbers_at : NumberedLine → Result (List ℤ) TextFault
linking_numbers_at line = do
  rest ← word (codes "numbers") line
  values ← letters rest
  if list_any is_long_letter values then Err (Limit rest.number) else Ok values

-- how many components a diagram has, and behind that its linking numbers
unfoldable pub linked_item : Text → Result (Linked × Text) TextFault
linked_item text = do
  one ← next_line text
  count ← components_at one.0
  two ← next_line one.1
  list ← linking_numbers_at two.0
  Ok (record { components = count; numbers = list }, two.1)
