use Rattle.std.proofs.Common.{◌∙◌, sym}
use Rattle.std.proofs.lemmas.List.Elements.{recursion_from_All}
use Rattle.knot_text.specs.Printed.{HasQuandleText}
use Rattle.seek_core.proofs.Rounds.{joined_verdict}
use Rattle.seek_core.proofs.finding.verdict_on.Goals as goal

pub returns-then-is_some : goal.returns-then-is_some
returns-then-is_some g c = joined_verdict c.args.pair.now c.args.quandles.now c.in_ok-joined.joined
    (recursion_from_All HasQuandleText c.args.quandles.now c.requires) c.in_ok-joined.ensures (sym c.is_some.ensures ∙ c.if-is_some.true)
