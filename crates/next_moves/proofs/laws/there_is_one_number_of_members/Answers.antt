use Rattle.next_moves.specs.Reach.{IsReached}
use Rattle.next_moves.proofs.HowMany.{one_number, more_excluded}
use Rattle.next_moves.proofs.laws.there_is_one_number_of_members.Goals as goal

pub returns-clause-one : goal.returns-clause-one
returns-clause-one c = λ a b cap. one_number (IsReached a b cap)

pub returns-clause-more : goal.returns-clause-more
returns-clause-more c = λ a b cap. more_excluded (IsReached a b cap)
