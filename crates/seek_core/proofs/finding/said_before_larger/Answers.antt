use Rattle.std.proofs.Common.{◌∙◌, sym}
use Rattle.std.proofs.lemmas.List.Elements.{recursion_from_All}
use Rattle.knot_text.specs.Printed.{HasQuandleText}
use Rattle.seek_core.specs.Sizes.{smaller_blocks}
use Rattle.seek_core.proofs.Rounds.{front_found, later_verdict, nothing_later}
use Rattle.seek_core.proofs.finding.said_before_larger.Goals as goal

pub returns-then-is_some : goal.returns-then-is_some
returns-then-is_some g c = front_found c.args.pair.now c.args.quandles.now c.split_at.result.0.now c.min.result (smaller_blocks c.args.blocks.now)
    c.in_ok-told.told (recursion_from_All HasQuandleText c.args.quandles.now c.requires) c.split_at.ensures.front c.in_ok-told.ensures
    (sym c.is_some.ensures ∙ c.if-is_some.true)

pub returns-in-Some : goal.returns-in-Some
returns-in-Some g c = later_verdict c.args.pair.now c.args.quandles.now c.split_at.result.0.now c.split_at.result.1.now c.min.result
    (smaller_blocks c.args.blocks.now) c.in_ok-told.told c.in_ok-verdict.field-0 c.in-Some.verdict c.split_at.ensures.front c.split_at.ensures.back
    c.in_ok-told.ensures (sym c.is_some.ensures ∙ c.if-is_some.false) c.in_ok-verdict.ensures c.in-Some.is

pub returns : goal.returns
returns g c = nothing_later c.args.pair.now c.args.quandles.now c.split_at.result.0.now c.split_at.result.1.now c.min.result
    (smaller_blocks c.args.blocks.now) c.in_ok-told.told c.in_ok-verdict.field-0 c.split_at.ensures.front c.split_at.ensures.back
    c.in_ok-told.ensures (sym c.is_some.ensures ∙ c.if-is_some.false) c.in_ok-verdict.ensures c.in-None.is
