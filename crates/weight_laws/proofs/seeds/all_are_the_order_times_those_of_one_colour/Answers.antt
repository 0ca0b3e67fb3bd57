use Rattle.colour_seeds.proofs.FirstColours.{by_colour}
use Rattle.weight_laws.proofs.seeds.all_are_the_order_times_those_of_one_colour.Goals as goal

pub returns : goal.returns
returns c = by_colour
