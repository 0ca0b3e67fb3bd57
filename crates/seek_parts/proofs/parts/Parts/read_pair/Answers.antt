use Rattle.std.proofs.Common.{◌∷◌, [], true, rules}
use Rattle.seek_parts.proofs.Adding.{alone, second_fault}
use Rattle.seek_parts.proofs.parts.Parts.read_pair.Goals as goal

pub returns-in_err-add-clause-fault : goal.returns-in_err-add-clause-fault
returns-in_err-add-clause-fault g c =
    let fault = alone _ (record { given = c.args.first; is_one = true }) (record { given = c.args.second; is_one = true } ∷ []) _ c.in_err-add.ensures.fault in
    search (rules, fault)

pub returns-in_err-add-2-clause-fault : goal.returns-in_err-add-2-clause-fault
returns-in_err-add-2-clause-fault g c =
    let fault = second_fault _ _ _ _ _ _ c.in_ok-add.ensures.part c.in_err-add-2.ensures.fault in
    search (rules, fault)
