use Rattle.std.proofs.Common.{◌∙◌, sym}
use Rattle.seek_core.proofs.Rounds.{found_before, found_last, nothing_last}
use Rattle.seek_core.proofs.finding.said_of.Goals as goal

pub returns-then-is_some : goal.returns-then-is_some
returns-then-is_some g c =
    found_before c.args.pair.now c.args.quandles.now c.args.blocks.now c.in_ok-said.said c.in_ok-said.ensures
    (sym c.is_some.ensures ∙ c.if-is_some.true)

pub returns-in-Some : goal.returns-in-Some
returns-in-Some g c =
    found_last c.args.pair.now c.args.quandles.now c.args.blocks.now c.in_ok-said.said c.in_ok-evidence.field-0 c.in-Some.evidence
    c.in_ok-said.ensures (sym c.is_some.ensures ∙ c.if-is_some.false) c.in_ok-evidence.ensures c.in-Some.is

pub returns : goal.returns
returns g c =
    nothing_last c.args.pair.now c.args.quandles.now c.args.blocks.now c.in_ok-said.said c.in_ok-evidence.field-0
    c.in_ok-said.ensures (sym c.is_some.ensures ∙ c.if-is_some.false) c.in_ok-evidence.ensures c.in-None.is
