use Rattle.weight_laws.proofs.Determined.{differing}
use Rattle.weight_laws.proofs.seeds.different_colourings_differ_at_a_seed.Goals as goal

pub returns : goal.returns
returns c = differing
