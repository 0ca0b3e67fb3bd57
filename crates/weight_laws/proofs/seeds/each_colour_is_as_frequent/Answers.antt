use Rattle.colour_seeds.proofs.Automorphisms.{as_frequent}
use Rattle.weight_laws.proofs.seeds.each_colour_is_as_frequent.Goals as goal

pub returns : goal.returns
returns c = as_frequent
