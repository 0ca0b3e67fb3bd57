use Rattle.weight_laws.proofs.Determined.{determined}
use Rattle.weight_laws.proofs.seeds.a_colouring_is_determined_by_its_seeds.Goals as goal

pub returns : goal.returns
returns c = determined
