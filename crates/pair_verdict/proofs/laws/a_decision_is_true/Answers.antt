use Rattle.pair_verdict.proofs.AnswerKinds.{claims_where_decided, holds_where_decided, tidy_where_decided}
use Rattle.pair_verdict.proofs.laws.a_decision_is_true.Goals as goal

pub returns-clause-claims : goal.returns-clause-claims
returns-clause-claims c = claims_where_decided

pub returns-clause-holds : goal.returns-clause-holds
returns-clause-holds c = holds_where_decided

pub returns-clause-tidy : goal.returns-clause-tidy
returns-clause-tidy c = tidy_where_decided
