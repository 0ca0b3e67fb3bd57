use Rattle.weight_laws.proofs.Differing.{trefoils_differ}
use Rattle.weight_laws.proofs.shadows.the_trefoils_differ.Goals as goal

pub returns : goal.returns
returns c = λ equivalent. trefoils_differ equivalent
