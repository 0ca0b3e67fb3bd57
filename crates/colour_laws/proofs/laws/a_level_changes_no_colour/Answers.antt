use Rattle.colour_laws.proofs.Facts.{level_fact}
use Rattle.colour_laws.proofs.laws.a_level_changes_no_colour.Goals as goal

pub returns : goal.returns
returns c = λ t d f h x q grid colouring le lt. level_fact t q d grid f colouring h x le lt
