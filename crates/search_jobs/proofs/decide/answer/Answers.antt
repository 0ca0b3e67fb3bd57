use Rattle.std.proofs.Common.{refl}
use Rattle.search_jobs.proofs.Decisions.{decides_for, claims_for, holds_for}
use Rattle.search_jobs.proofs.decide.answer.Goals as goal

pub answer_decision-requires-clause-decides : goal.answer_decision-requires-clause-decides
answer_decision-requires-clause-decides g c =
    decides_for c.decide-decision.result _ _ _ _ _ _ c.problem_for-problem.ensures c.as_slice-quandles.ensures refl c.decide-decision.ensures.decides

pub answer_decision-requires-clause-claims : goal.answer_decision-requires-clause-claims
answer_decision-requires-clause-claims g c = claims_for c.decide-decision.result _ _ c.problem_for-problem.ensures c.decide-decision.ensures.claims

pub answer_decision-requires-clause-holds : goal.answer_decision-requires-clause-holds
answer_decision-requires-clause-holds g c = holds_for c.decide-decision.result _ _ c.problem_for-problem.ensures c.decide-decision.ensures.holds
