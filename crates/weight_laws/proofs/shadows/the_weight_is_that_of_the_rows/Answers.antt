use Rattle.colour_weights.proofs.ShadowCarried.{by_rows}
use Rattle.weight_laws.proofs.shadows.the_weight_is_that_of_the_rows.Goals as goal

pub returns : goal.returns
returns q = λ t d f outer cocycle grid colouring below. by_rows t cocycle d grid f colouring outer below
