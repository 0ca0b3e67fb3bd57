use Rattle.braid_laws.proofs.Letters.{action_bijection}
use Rattle.braid_laws.proofs.braids.a_braid_acts_as_a_bijection_on_tuples.Goals as goal

pub returns : goal.returns
returns c = λ t q b braid. action_bijection t q b.strands b.letters braid.crossings
