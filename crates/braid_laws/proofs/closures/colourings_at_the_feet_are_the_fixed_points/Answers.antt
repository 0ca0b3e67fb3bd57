use Rattle.braid_laws.proofs.Feet.{feet_fixed}
use Rattle.braid_laws.proofs.Colourings.{feet_onto, feet_one}
use Rattle.braid_laws.proofs.closures.colourings_at_the_feet_are_the_fixed_points.Goals as goal

pub returns : goal.returns
returns c = λ t q b braid. record { into = feet_fixed t q b braid; onto = feet_onto t q b braid; one = feet_one t q b braid }
