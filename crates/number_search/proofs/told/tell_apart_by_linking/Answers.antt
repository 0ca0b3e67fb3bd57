use Rattle.std.proofs.Common.{◌∙◌, sym}
use Rattle.evidence_core.proofs.LinksOfGrids.{linking_apart}
use Rattle.number_search.proofs.Held.{links_differ}
use Rattle.number_search.proofs.told.tell_apart_by_linking.Goals as goal

pub returns-clause-accepted : goal.returns-clause-accepted
returns-clause-accepted c =
    links_differ c.args.first.now c.args.second.now c.in_ok-one.one c.in_ok-two.two c.in_ok-one.ensures c.in_ok-two.ensures
    (sym c.are_same.ensures ∙ c.if-are_same.false)

pub returns-clause-apart : goal.returns-clause-apart
returns-clause-apart c = linking_apart c.args.first.now c.args.second.now c.in_ok-one.one c.in_ok-two.two (returns-clause-accepted c)
