use Rattle.std.proofs.Common.{◌≡◌, ◌-◌, None}
use Rattle.verdict_text.specs.Moves.{tidy_moves}
use Rattle.text_items.proofs.Turns.{with_front}
use Rattle.verdict_text.proofs.moves.tidy_moves.Given as goal

abbrev pub invariant-loop : goal.invariant-loop
invariant-loop l = with_front l.moves.items (tidy_moves l.before (l.count - l.counter) l.lines) ≡ tidy_moves None l.count l.fn.lines
