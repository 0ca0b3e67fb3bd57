use Rattle.colour_weights.proofs.Lifted.{lifted_cocycle, lifted_weight}
use Rattle.weight_laws.proofs.weights.a_2_cocycle_is_a_shadow_cocycle.Goals as goal

pub returns-clause-cocycle : goal.returns-clause-cocycle
returns-clause-cocycle c = λ w cocycle. lifted_cocycle w cocycle

pub returns-clause-weight : goal.returns-clause-weight
returns-clause-weight c = λ w d f outer cocycle grid colouring below. lifted_weight w cocycle d grid f colouring outer below
