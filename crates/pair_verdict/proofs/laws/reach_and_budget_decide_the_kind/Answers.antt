use Rattle.pair_verdict.proofs.AnswerKinds.{joined, joined_beyond, apart, apart_beyond}
use Rattle.pair_verdict.proofs.laws.reach_and_budget_decide_the_kind.Goals as goal

pub returns-clause-joined : goal.returns-clause-joined
returns-clause-joined c = joined

pub returns-clause-joined_beyond : goal.returns-clause-joined_beyond
returns-clause-joined_beyond c = joined_beyond

pub returns-clause-apart : goal.returns-clause-apart
returns-clause-apart c = apart

pub returns-clause-apart_beyond : goal.returns-clause-apart_beyond
returns-clause-apart_beyond c = apart_beyond
