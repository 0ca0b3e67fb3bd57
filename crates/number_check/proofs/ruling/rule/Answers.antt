use Rattle.number_check.proofs.Rulings.{accepted_where_held}
use Rattle.number_check.proofs.ruling.rule.Goals as goal

pub returns-clause-accepted : goal.returns-clause-accepted
returns-clause-accepted c =
    accepted_where_held c.args.first.now c.args.second.now c.args.evidence.now c.in_ok-ruling.ruling c.in_ok-ruling.ensures.ruling
