use Rattle.std.proofs.Common.{length, arith, ap}
use Rattle.std.proofs.lemmas.Fmt.{decimal_digit}
use Rattle.std.specs.Fmt.{decimal}
use Rattle.text_lines.proofs.Parts.{on_err, part_none}
use Rattle.text_lines.proofs.writing.push_small.Goals as goal

pub returns-then-number-lt10-clause-text : goal.returns-then-number-lt10-clause-text
returns-then-number-lt10-clause-text c = rw (decimal_digit c.args.number c.if-number-lt10.true) c.in_ok-push.ensures.items

pub returns-in_err-push-clause-part : goal.returns-in_err-push-clause-part
returns-in_err-push-clause-part c =
    on_err c.from_residual.result _ (part_none c.args.out.now.items c.push.new.self.items (decimal c.args.number) c.in_err-push.ensures.items
    (omega (arith, ap length (decimal_digit c.args.number c.if-number-lt10.true))))
