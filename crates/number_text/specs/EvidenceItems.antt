-- Evidence by numbers as a text, from the line `certificate 3` on: of two diagrams the numbers of colourings by a block, or the linking numbers.
use Rattle.std.specs.Prelude.{ℕ, ◌==◌, List, codes, Option, Some, None, Result, Ok, Err, if◌then◌else◌}
use Rattle.std.specs.Str.{bytes_eq}
use Rattle.quandle_core.specs.declared.operations.TheConstants.{MAX_LARGE_ORDER}
use Rattle.text_lines.specs.Lines.{NumberedLine, Text}
use Rattle.text_items.specs.declared.fault.TextFault.{TextFault}
use Rattle.text_items.specs.declared.fault.TextFault.TheVariants.{Malformed}
use Rattle.text_items.specs.Reading.{◌>>=◌, next_line, next_token, line_end, word, last_count}
use Rattle.text_items.specs.Quandles.{quandle_at}
use Rattle.evidence_core.specs.declared.blocks.LargeWeighing.{LargeWeighing}
use Rattle.evidence_core.specs.declared.blocks.LargeWeighing.TheVariants.{Strands, Regions}
use Rattle.evidence_core.specs.declared.evidence.Evidence.{Evidence}
use Rattle.evidence_core.specs.declared.evidence.Evidence.TheVariants.{Numbers, Linking}
use Rattle.number_text.specs.declared.evidence_items.TheConstants.{THIRD_VERSION}
use Rattle.number_text.specs.BlockCocycles.{cocycle_or_none}
use Rattle.number_text.specs.NumberLines.{seeded_numbers_item, linked_item}

-- one number without a cocycle, else one for each weight
abbrev pub count_of : Option LargeWeighing → ℕ
count_of None = 1
count_of (Some (Strands w)) = w.modulus
count_of (Some (Regions s)) = s.cocycle.modulus

-- behind `different numbers`: a quandle, perhaps a cocycle of it, and the seeds and numbers of each diagram
unfoldable pub numbers_evidence : NumberedLine → Text → Result (Evidence × Text) TextFault
numbers_evidence line text = do
  quandle ← quandle_at MAX_LARGE_ORDER line text
  cocycle ← cocycle_or_none quandle.0.table quandle.1
  first ← seeded_numbers_item (count_of cocycle.0) cocycle.1
  second ← seeded_numbers_item (count_of cocycle.0) first.1
  Ok (Numbers (record { listed = quandle.0; cocycle = cocycle.0 }) first.0 second.0, second.1)

-- behind `different linking`: the numbers of components and the linking numbers of each diagram
unfoldable pub linking_evidence : NumberedLine → Text → Result (Evidence × Text) TextFault
linking_evidence line text = do
  end ← line_end line
  first ← linked_item text
  second ← linked_item first.1
  Ok (Linking first.0 second.0, second.1)

-- `different`, the kind of numbers, and the numbers of two diagrams
unfoldable pub evidence_at : NumberedLine → Text → Result (Evidence × Text) TextFault
evidence_at line text = do
  rest ← word (codes "different") line
  kind ← next_token rest
  if bytes_eq kind.0 (codes "numbers") then numbers_evidence kind.1 text
      else if bytes_eq kind.0 (codes "linking") then linking_evidence kind.1 text
      else Err (Malformed kind.1.number)

-- the line `certificate 3`
unfoldable pub head_at : NumberedLine → Result (Unit {0}) TextFault
head_at line = do
  rest ← word (codes "certificate") line
  version ← last_count rest
  if version == THIRD_VERSION then Ok tt else Err (Malformed line.number)

-- the line `certificate 3`, and the evidence behind it
unfoldable pub evidence_item : Text → Result (Evidence × Text) TextFault
evidence_item text = do
  head ← next_line text
  version ← head_at head.0
  line ← next_line head.1
  evidence_at line.0 line.1
