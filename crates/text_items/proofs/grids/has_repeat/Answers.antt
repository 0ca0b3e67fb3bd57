use Rattle.std.proofs.Common.{sym, ◌∙◌, arith}
use Rattle.text_items.proofs.GridLines.{repeat_at, no_repeat}
use Rattle.text_items.proofs.grids.has_repeat.Goals as goal

pub returns-then-is_repeated : goal.returns-then-is_repeated
returns-then-is_repeated c = sym (repeat_at c.args.rows.now c.loop-c.c (omega arith) (sym c.is_repeated.ensures ∙ c.if-is_repeated.true))

pub returns : goal.returns
returns c = sym (no_repeat c.args.rows.now (λ k lt. c.loop-c.invariant k (omega (arith, lt))))
