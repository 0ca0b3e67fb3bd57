use Rattle.next_moves.specs.Reach.{IsReached}
use Rattle.pair_verdict.proofs.SameReach.{joined_as, reached_as, members_as, more_as}
use Rattle.pair_verdict.proofs.laws.joined_diagrams_stand_for_each_other.Goals as goal

pub returns-clause-reached : goal.returns-clause-reached
returns-clause-reached c = reached_as

pub returns-clause-joined : goal.returns-clause-joined
returns-clause-joined c = joined_as

pub returns-clause-members : goal.returns-clause-members
returns-clause-members c = λ a b s t cap k one two. members_as (IsReached s t cap) (IsReached a b cap) k (reached_as a b s t cap one two)

pub returns-clause-more : goal.returns-clause-more
returns-clause-more c = λ a b s t cap k one two. more_as (IsReached s t cap) (IsReached a b cap) k (reached_as a b s t cap one two)
