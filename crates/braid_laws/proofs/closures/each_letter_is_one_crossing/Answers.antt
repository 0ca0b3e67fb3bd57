use Rattle.braid_laws.proofs.LetterCrossings.{each_letter_crosses, crossing_rows}
use Rattle.braid_laws.proofs.closures.each_letter_is_one_crossing.Goals as goal

pub returns-clause-letters : goal.returns-clause-letters
returns-clause-letters c = λ b braid i lt. let one = each_letter_crosses b braid i lt in (one.column, one.crosses_there, one.sign_is, one.alone)

pub returns-clause-rows : goal.returns-clause-rows
returns-clause-rows c = crossing_rows
