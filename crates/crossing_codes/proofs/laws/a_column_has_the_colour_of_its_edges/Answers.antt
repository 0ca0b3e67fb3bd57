use Rattle.crossing_codes.proofs.ColourForth.{column_colour}
use Rattle.crossing_codes.proofs.EdgeLaws.{column_comes, column_goes}
use Rattle.crossing_codes.proofs.laws.a_column_has_the_colour_of_its_edges.Goals as goal

pub returns-clause-begins : goal.returns-clause-begins
returns-clause-begins c = λ t d f k q grid colouring lt. column_colour t d f grid q colouring k lt

pub returns-clause-comes : goal.returns-clause-comes
returns-clause-comes c = column_comes

pub returns-clause-goes : goal.returns-clause-goes
returns-clause-goes c = column_goes
