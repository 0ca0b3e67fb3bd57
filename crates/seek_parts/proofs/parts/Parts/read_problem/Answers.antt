use Rattle.std.proofs.Common.{[], false, rules}
use Rattle.seek_parts.proofs.Adding.{alone}
use Rattle.seek_parts.proofs.parts.Parts.read_problem.Goals as goal

pub returns-in_err-add-clause-fault : goal.returns-in_err-add-clause-fault
returns-in_err-add-clause-fault g c =
    let fault = alone _ (record { given = c.args.given; is_one = false }) [] _ c.in_err-add.ensures.fault in
    search (rules, fault)
