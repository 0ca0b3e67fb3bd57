use Rattle.std.proofs.Common.{◌≡◌, ◌-◌}
use Rattle.text_items.specs.declared.quandles.TheConstants.{MAX_QUANDLES}
use Rattle.number_text.specs.Blocks.{listed_blocks}
use Rattle.text_items.proofs.Turns.{with_front}
use Rattle.number_text.proofs.blocks.listed_blocks.Given as goal

abbrev pub invariant-loop : goal.invariant-loop
invariant-loop l = with_front l.blocks.items (listed_blocks l.most (MAX_QUANDLES - l.counter) l.lines) ≡ listed_blocks l.most MAX_QUANDLES l.fn.lines
