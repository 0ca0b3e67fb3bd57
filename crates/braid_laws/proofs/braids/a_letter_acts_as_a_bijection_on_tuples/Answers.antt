use Rattle.braid_laws.proofs.Letters.{letter_bijection}
use Rattle.braid_laws.proofs.braids.a_letter_acts_as_a_bijection_on_tuples.Goals as goal

pub returns : goal.returns
returns c = letter_bijection
