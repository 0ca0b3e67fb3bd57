use Rattle.std.proofs.Common.{rules}
use Rattle.verdict_core.specs.Diagrams.{grid_of}
use Rattle.cert_check.proofs.Rulings.{accepted_if_ruled}
use Rattle.cert_check.proofs.verdict.check.Goals as goal

pub returns-in-Different-clause-accepted : goal.returns-in-Different-clause-accepted
returns-in-Different-clause-accepted c =
    accepted_if_ruled c.check_lists.result (grid_of c.args.problem.now.first) (grid_of c.args.problem.now.second) c.args.verdict.now (search rules)
