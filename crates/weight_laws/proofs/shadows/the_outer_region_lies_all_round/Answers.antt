use Rattle.std.proofs.Common.{refl}
use Rattle.colour_laws.proofs.Facts.{level_fact}
use Rattle.colour_weights.proofs.Parted.{below_all, above_all}
use Rattle.weight_laws.proofs.shadows.the_outer_region_lies_all_round.Goals as goal

pub returns-clause-below : goal.returns-clause-below
returns-clause-below c = λ t d f u i. below_all t d f u i

pub returns-clause-above : goal.returns-clause-above
returns-clause-above c = λ t d f u i grid le. above_all t d f u i grid le

pub returns-clause-left : goal.returns-clause-left
returns-clause-left c = λ t d f u h. refl

pub returns-clause-right : goal.returns-clause-right
returns-clause-right c = λ t d f u h q grid colouring lu le. level_fact t q d grid f colouring h u le lu
