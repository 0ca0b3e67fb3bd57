use Rattle.std.proofs.Common.{◌≡◌, ◌-◌}
use Rattle.text_items.specs.Reading.{in_turn}
use Rattle.knot_text.specs.BraidSteps.{braid_step_item}
use Rattle.text_items.proofs.Turns.{with_front}
use Rattle.knot_text.proofs.braid_steps.step_lines.Given as goal

abbrev pub invariant-loop : goal.invariant-loop
invariant-loop l = with_front l.steps.items (in_turn braid_step_item (l.count - l.counter) l.lines) ≡ in_turn braid_step_item l.count l.fn.lines
