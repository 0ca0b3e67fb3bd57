use Rattle.std.proofs.Common.{◌∙◌, sym}
use Rattle.evidence_core.proofs.LinksOfGrids.{links_hold, linking_apart}
use Rattle.number_check.proofs.ruling.rule_links.Goals as goal

pub returns-in-None-clause-ruling : goal.returns-in-None-clause-ruling
returns-in-None-clause-ruling c =
    links_hold c.args.first.now c.args.second.now c.args.one.now c.args.two.now (sym c.in_ok-cause.ensures ∙ c.in-None.is)

pub returns-in-None-clause-apart : goal.returns-in-None-clause-apart
returns-in-None-clause-apart c = λ accepted.
    linking_apart c.args.first.now c.args.second.now c.args.one.now c.args.two.now (returns-in-None-clause-ruling c)
