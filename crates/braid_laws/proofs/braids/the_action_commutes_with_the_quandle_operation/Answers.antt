use Rattle.braid_laws.proofs.Respected.{over_commutes, back_commutes}
use Rattle.braid_laws.proofs.braids.the_action_commutes_with_the_quandle_operation.Goals as goal

pub returns-clause-over : goal.returns-clause-over
returns-clause-over c = λ t q b braid xs tuple z at_z. over_commutes t q b.strands b.letters braid.crossings xs tuple z at_z

pub returns-clause-back : goal.returns-clause-back
returns-clause-back c = λ t q b braid xs tuple z at_z. back_commutes t q b.strands b.letters braid.crossings xs tuple z at_z
