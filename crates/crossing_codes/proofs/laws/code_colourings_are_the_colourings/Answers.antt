use Rattle.crossing_codes.proofs.OneToOne.{one_to_one}
use Rattle.crossing_codes.proofs.Counts.{as_many}
use Rattle.crossing_codes.proofs.laws.code_colourings_are_the_colourings.Goals as goal

pub returns-clause-one_to_one : goal.returns-clause-one_to_one
returns-clause-one_to_one c = one_to_one

pub returns-clause-count : goal.returns-clause-count
returns-clause-count c = λ t d q grid. as_many t d grid q
