-- The whole text of two braids and the steps that are to lead from one to the other.
use Rattle.std.specs.Prelude.{ℕ, List, Result, Ok}
use Rattle.text_lines.specs.Lines.{Text, text_of}
use Rattle.text_items.specs.declared.fault.TextFault.{TextFault}
use Rattle.knot_text.specs.declared.braid_checks.BraidCheckText.{BraidCheckText}
use Rattle.text_items.specs.Reading.{◌>>=◌, text_end}
use Rattle.text_items.specs.Braids.{braid_item}
use Rattle.knot_text.specs.BraidSteps.{steps_item}

-- two braids and steps, and nothing behind them
unfoldable pub braidcheck_in : Text → Result BraidCheckText TextFault
braidcheck_in text = do
  first ← braid_item text
  second ← braid_item first.1
  steps ← steps_item second.1
  end ← text_end steps.1
  Ok (record { first = first.0; second = second.0; steps = steps.0 })

-- two braids and steps, from the bytes of a text
abbrev pub braidcheck_of : List ℕ → Result BraidCheckText TextFault
braidcheck_of bytes = braidcheck_in (text_of bytes)
