-- A shadow cocycle of a quandle as a text: `shadow mochizuki`, or `shadow` with the modulus, and the lines of its table.
use Rattle.std.specs.Prelude.{ℕ, ◌*◌, ◌-◌, List, ◌++◌, codes, Result, Ok, Err, is_none, nat_le, if◌then◌else◌}
use Rattle.std.specs.Str.{bytes_eq}
use Rattle.quandle_core.specs.declared.quandle.TheConstants.{MAX_ORDER}
use Rattle.quandle_core.specs.Quandle.{Table}
use Rattle.cocycle_core.specs.ShadowCocycle.{ShadowCochain}
use Rattle.cocycle_core.specs.ShadowFault.{first_shadow_fault}
use Rattle.text_lines.specs.Lines.{NumberedLine, Text}
use Rattle.text_lines.specs.NumberTokens.{number_of}
use Rattle.text_items.specs.declared.fault.TextFault.{TextFault}
use Rattle.text_items.specs.declared.fault.TextFault.TheVariants.{Malformed}
use Rattle.text_items.specs.declared.modulus.TheConstants.{MAX_MODULUS}
use Rattle.text_items.specs.Reading.{◌>>=◌, next_line, next_token, line_end, word, or_malformed, at_most}
use Rattle.text_items.specs.Numbers.{numbers_below}
use Rattle.text_items.specs.Quandles.{table_rows}
use Rattle.evidence_core.specs.declared.shadows.Spelling.{Spelling}
use Rattle.evidence_core.specs.declared.shadows.Spelling.TheVariants as spelling
use Rattle.evidence_core.specs.declared.shadows.SpelledShadow.{SpelledShadow}
use Rattle.number_text.specs.declared.shadows.Head.{Head}
use Rattle.number_text.specs.declared.shadows.Head.TheVariants as head
use Rattle.cocycle_core.specs.Formula.{has_formula, mochizuki}

-- the formula is meant: the quandle's order is within the limit, and then the quandle has the formula
abbrev pub formula_of : Table → ℕ → Result Head TextFault
formula_of quandle n = do
  order ← at_most MAX_ORDER n quandle.order
  if has_formula quandle then Ok head.Mochizuki else Err (Malformed n)

-- the quandle's order and a modulus are within their limits, and then the modulus is at least 2
abbrev pub modulus_of : Table → ℕ → ℕ → Result Head TextFault
modulus_of quandle n value = do
  order ← at_most MAX_ORDER n quandle.order
  modulus ← at_most MAX_MODULUS n value
  if nat_le 2 modulus then Ok (head.Table modulus) else Err (Malformed n)

-- `mochizuki`, or a modulus
abbrev pub head_of : Table → ℕ → List ℕ → Result Head TextFault
head_of quandle n token = if bytes_eq token (codes "mochizuki") then formula_of quandle n else (do
  value ← or_malformed n (number_of token)
  modulus_of quandle n value)

-- the first line: its form, its limits, and its content
unfoldable pub shadow_head_at : Table → NumberedLine → Result Head TextFault
shadow_head_at quandle line = do
  rest ← word (codes "shadow") line
  token ← next_token rest
  end ← line_end token.1
  head_of quandle line.number token.0

-- a shadow cocycle, with how its text gives it
abbrev pub spelled : Spelling → ShadowCochain → SpelledShadow
spelled s t = record { spelling = s; cocycle = t }

-- the numbers of a table, whether or not they have the laws
abbrev pub shadow_cochain : Table → ℕ → List ℕ → ShadowCochain
shadow_cochain quandle modulus entries = record { quandle = quandle; modulus = modulus; entries = entries }

-- the lines of a table, q for each colour w of a region, of which line x has θ(w, x, 0) to θ(w, x, q-1);
-- one that fails a law of shadow cocycles is malformed at its last line
unfoldable pub shadow_cochain_item : Table → ℕ → Text → Result (SpelledShadow × Text) TextFault
shadow_cochain_item quandle modulus text = do
  front ← table_rows quandle.order modulus (quandle.order * quandle.order - 1) text
  line ← next_line front.1
  row ← numbers_below quandle.order modulus line.0
  if is_none (first_shadow_fault (shadow_cochain quandle modulus (front.0 ++ row)))
      then Ok (spelled spelling.Table (shadow_cochain quandle modulus (front.0 ++ row)), line.1)
      else Err (Malformed line.0.number)

-- what a first line means, with the lines behind it that a table takes
abbrev pub shadow_of : Table → Head → Text → Result (SpelledShadow × Text) TextFault
shadow_of quandle head.Mochizuki text = Ok (spelled spelling.Mochizuki (mochizuki quandle.order), text)
shadow_of quandle (head.Table modulus) text = shadow_cochain_item quandle modulus text

-- a shadow cocycle of the quandle
unfoldable pub shadow_item : Table → Text → Result (SpelledShadow × Text) TextFault
shadow_item quandle text = do
  line ← next_line text
  said ← shadow_head_at quandle line.0
  shadow_of quandle said line.1
