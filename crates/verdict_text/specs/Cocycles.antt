-- A cocycle of a quandle as a text: `weight` with the modulus, and the lines of its table.
use Rattle.std.specs.Prelude.{ℕ, ◌-◌, List, ◌++◌, Result, Ok, Err, is_none, if◌then◌else◌}
use Rattle.quandle_core.specs.Quandle.{Table}
use Rattle.cocycle_core.specs.Cocycle.{Cochain}
use Rattle.cocycle_core.specs.Fault.{first_cocycle_fault}
use Rattle.text_lines.specs.Lines.{Text}
use Rattle.text_items.specs.declared.fault.TextFault.{TextFault}
use Rattle.text_items.specs.declared.fault.TextFault.TheVariants.{Malformed}
use Rattle.text_items.specs.Reading.{◌>>=◌, next_line}
use Rattle.text_items.specs.Modulus.{modulus_at}
use Rattle.text_items.specs.Numbers.{numbers_below}
use Rattle.text_items.specs.Quandles.{table_rows}

-- the numbers of a table, whether or not they have the laws of a cocycle
abbrev pub cochain : Table → ℕ → List ℕ → Cochain
cochain quandle modulus entries = record { quandle = quandle; modulus = modulus; entries = entries }

-- the lines of a table, row x of which has φ(x, 0) to φ(x, q-1); one that fails a law of cocycles is malformed at its last line
unfoldable pub cochain_item : Table → ℕ → Text → Result (Cochain × Text) TextFault
cochain_item quandle modulus text = do
  front ← table_rows quandle.order modulus (quandle.order - 1) text
  line ← next_line front.1
  row ← numbers_below quandle.order modulus line.0
  if is_none (first_cocycle_fault (cochain quandle modulus (front.0 ++ row)))
      then Ok (cochain quandle modulus (front.0 ++ row), line.1)
      else Err (Malformed line.0.number)

-- a cocycle of the quandle
unfoldable pub cocycle_item : Table → Text → Result (Cochain × Text) TextFault
cocycle_item quandle text = do
  line ← next_line text
  modulus ← modulus_at line.0
  cochain_item quandle modulus line.1
