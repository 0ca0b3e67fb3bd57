use Rattle.colour_laws.proofs.Facts.{sliding, cancelling}
use Rattle.colour_laws.proofs.laws.an_action_slides_along_a_chain.Goals as goal

pub returns-clause-sliding : goal.returns-clause-sliding
returns-clause-sliding c = λ t up chain a x q all la lx. sliding t q up chain a x all la lx

pub returns-clause-cancelling : goal.returns-clause-cancelling
returns-clause-cancelling c = λ t up chain a x q all la lx. cancelling t q up chain a x all la lx
