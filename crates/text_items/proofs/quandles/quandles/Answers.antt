use Rattle.std.proofs.Common.{◌-◌, sym, ◌∙◌}
use Rattle.std.proofs.lemmas.Result.{err_from_is_err_and}
use Rattle.text_items.specs.declared.quandles.TheConstants.{MAX_QUANDLES}
use Rattle.text_items.specs.Quandles.{quandles}
use Rattle.text_items.proofs.Lists.{quandle_more, quandle_fails, quandles_end, quandles_over}
use Rattle.text_items.proofs.quandles.quandles.Goals as goal

pub returns-then-not-begins : goal.returns-then-not-begins
returns-then-not-begins c =
    quandles_end c.loop.listed.items (MAX_QUANDLES - c.loop.counter) c.loop.lines (quandles MAX_QUANDLES c.args.lines.now)
    (sym c.begins.ensures ∙ c.if-not-begins.true) c.loop.invariant

pub returns-in_err-quandle_item : goal.returns-in_err-quandle_item
returns-in_err-quandle_item c =
    let p = err_from_is_err_and c.from_residual.result c.from_residual.ensures.1 in
    rw (p.1, p.2) (quandle_fails c.in_err-quandle_item.field-0.0 c.loop.listed.items MAX_QUANDLES c.loop.counter c.loop.lines
    (quandles MAX_QUANDLES c.args.lines.now) c.loop-test.true (sym c.begins.ensures ∙ c.if-not-begins.false) c.in_err-quandle_item.ensures c.loop.invariant)

pub loop-preserved : goal.loop-preserved
loop-preserved c =
    rw c.in_ok-push.ensures.items (quandle_more c.loop.listed.items MAX_QUANDLES c.loop.counter c.loop.lines
    c.in_ok-quandle_item.field-0 c.quandle_item.new.lines (quandles MAX_QUANDLES c.args.lines.now) c.loop-test.true
    (sym c.begins.ensures ∙ c.if-not-begins.false) c.in_ok-quandle_item.ensures c.loop.invariant)

pub returns-then-begins : goal.returns-then-begins
returns-then-begins c =
    let total = quandles_over c.loop.listed.items MAX_QUANDLES c.loop.counter c.loop.lines (quandles MAX_QUANDLES c.args.lines.now) c.loop-test.false
    (sym c.begins-2.ensures ∙ c.if-begins.true) c.loop.invariant in
    rw total c.surplus_quandle.ensures

pub returns : goal.returns
returns c =
    quandles_end c.loop.listed.items (MAX_QUANDLES - c.loop.counter) c.loop.lines (quandles MAX_QUANDLES c.args.lines.now)
    (sym c.begins-2.ensures ∙ c.if-begins.false) c.loop.invariant
