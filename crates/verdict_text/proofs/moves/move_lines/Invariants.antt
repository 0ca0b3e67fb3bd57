use Rattle.std.proofs.Common.{◌≡◌, ◌-◌}
use Rattle.text_items.specs.Reading.{in_turn}
use Rattle.verdict_text.specs.Moves.{next_move}
use Rattle.text_items.proofs.Turns.{with_front}
use Rattle.verdict_text.proofs.moves.move_lines.Given as goal

abbrev pub invariant-loop : goal.invariant-loop
invariant-loop l = with_front l.moves.items (in_turn next_move (l.count - l.counter) l.lines) ≡ in_turn next_move l.count l.fn.lines
