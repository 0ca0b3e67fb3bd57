use Rattle.mono_simplify.proofs.Once.{not_both}
use Rattle.mono_simplify.proofs.laws.a_listing_has_not_both_few_and_more_members.Goals as goal

pub returns-clause-members : goal.returns-clause-members
returns-clause-members c = not_both

pub returns-clause-ends : goal.returns-clause-ends
returns-clause-ends c = λ d b few more. not_both d b more.turns more.keys more.listed more.more few
