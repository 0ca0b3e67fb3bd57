use Rattle.std.proofs.Common.{Err, ap, sym, ◌∙◌, arith}
use Rattle.text_items.specs.declared.fault.TextFault.TheVariants.{Malformed}
use Rattle.text_items.proofs.Cuts.{below_bad, below_good, below_len}
use Rattle.text_items.proofs.numbers.numbers_below.Goals as goal

pub returns-then-not-are_below-clause-numbers : goal.returns-then-not-are_below-clause-numbers
returns-then-not-are_below-clause-numbers c =
    below_bad c.in_ok-kept.kept c.args.width c.args.order c.args.line.now c.requires (omega arith) c.in_ok-kept.ensures c.if-kept.false
    (sym c.are_below.ensures ∙ c.if-not-are_below.true)
    ∙ ap (λ n. Err (Malformed n)) (sym c.number-at.ensures)

pub returns-clause-numbers : goal.returns-clause-numbers
returns-clause-numbers c =
    below_good c.in_ok-kept.kept c.args.width c.args.order c.args.line.now c.requires (omega arith) c.in_ok-kept.ensures c.if-kept.false
    (sym c.are_below.ensures ∙ c.if-not-are_below.false)

pub returns-clause-len : goal.returns-clause-len
returns-clause-len c = below_len c.in_ok-kept.kept c.args.width c.args.order (sym c.are_below.ensures ∙ c.if-not-are_below.false)
