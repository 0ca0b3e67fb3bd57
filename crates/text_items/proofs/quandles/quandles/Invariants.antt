use Rattle.std.proofs.Common.{◌≡◌, ◌-◌}
use Rattle.text_items.specs.declared.quandles.TheConstants.{MAX_QUANDLES}
use Rattle.text_items.specs.Quandles.{quandles}
use Rattle.text_items.proofs.Turns.{with_front}
use Rattle.text_items.proofs.quandles.quandles.Given as goal

abbrev pub invariant-loop : goal.invariant-loop
invariant-loop l = with_front l.listed.items (quandles (MAX_QUANDLES - l.counter) l.lines) ≡ quandles MAX_QUANDLES l.fn.lines
