use Rattle.colour_seeds.proofs.Seeds.{plan_determines}
use Rattle.weight_laws.proofs.seeds.the_seeds_of_a_plan_determine.Goals as goal

pub returns : goal.returns
returns c = plan_determines
