use Rattle.code_rows.proofs.Parts.{part_joined, part_least}
use Rattle.code_rows.proofs.laws.a_part_is_numbered_by_its_least_crossing.Goals as goal

pub returns-clause-of_it : goal.returns-clause-of_it
returns-clause-of_it c = λ xs k have lt. part_joined xs have k lt

pub returns-clause-least : goal.returns-clause-least
returns-clause-least c = λ xs j k have joined. part_least xs have j k joined
