use Rattle.colour_weights.proofs.Carried.{by_rows}
use Rattle.weight_laws.proofs.weights.the_weight_is_that_of_the_rows.Goals as goal

pub returns : goal.returns
returns c = λ w d f cocycle grid colouring. by_rows w cocycle d grid f colouring
