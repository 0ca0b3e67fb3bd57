-- A text of two braids and steps fails at its first bad line, or at its end.
use Rattle.std.proofs.Common.{ℕ, List, Ok, codes}
use Rattle.braid_core.specs.Braid.{Word}
use Rattle.braid_moves.specs.declared.step.BraidMove.{BraidMove}
use Rattle.text_lines.specs.Lines.{NumberedLine}
use Rattle.text_items.specs.declared.reading.TheConstants.{MAX_NUMBER}
use Rattle.knot_text.specs.declared.braid_checks.BraidCheckText.{BraidCheckText}
use Rattle.text_items.specs.Reading.{◌>>=◌, text_end, word, last_count}
use Rattle.text_items.specs.Braids.{braid_item}
use Rattle.knot_text.specs.BraidSteps.{step_at, braid_step_item, step_lines, steps_item}
use Rattle.knot_text.specs.BraidChecks.{braidcheck_in}
use Rattle.knot_text.specs.FirstBadLine.{FailsFirst}
use Rattle.knot_text.proofs.Steady.{Anywhere, Steady, turns_steady}
use Rattle.knot_text.proofs.AtLine.{At, line_alone}
use Rattle.knot_text.proofs.ItemsAtLine.{word_count_at}
use Rattle.knot_text.proofs.BraidStepLines.{step_at_at}
use Rattle.knot_text.proofs.ItemsSteady.{braid_steady, line_then_two}
use Rattle.knot_text.proofs.FirstFault.{anywhere_seen, then_fails, end_fails}

-- ---- steps

next_step_steady : Steady Anywhere braid_step_item
unfolding braid_step_item
next_step_steady = line_alone step_at step_at_at

step_lines_steady : (count : ℕ) → Steady Anywhere (step_lines count)
step_lines_steady count = turns_steady braid_step_item count next_step_steady

steps_line_at : (line : NumberedLine) → At line.number (word (codes "steps") line >>= last_count)
unfolding last_count
steps_line_at line = word_count_at (codes "steps") MAX_NUMBER line

pub steps_steady : Steady Anywhere steps_item
unfolding steps_item
steps_steady = line_then_two (word (codes "steps")) last_count (λ count text. step_lines count text) steps_line_at step_lines_steady

-- ---- two braids and the steps between them

abbrev both_and : Word → Word → List BraidMove → BraidCheckText
both_and v w steps = record { first = v; second = w; steps = steps }

pub braidcheck_fails : FailsFirst braidcheck_in
unfolding braidcheck_in
braidcheck_fails =
    then_fails Anywhere braid_item
    (λ v text. braid_item text >>= λ w. steps_item w.1 >>= λ s. text_end s.1 >>= λ end. Ok (both_and v w.0 s.0)) anywhere_seen braid_steady
    (λ v. then_fails Anywhere braid_item (λ w text. steps_item text >>= λ s. text_end s.1 >>= λ end. Ok (both_and v w s.0)) anywhere_seen braid_steady
    (λ w. then_fails Anywhere steps_item (λ s text. text_end text >>= λ end. Ok (both_and v w s)) anywhere_seen steps_steady
    (λ s. end_fails (both_and v w s))))
