use Rattle.std.proofs.Common.{sym}
use Rattle.search_jobs.proofs.Decisions.{decides_for, claims_for, holds_for}
use Rattle.search_jobs.proofs.decide.answer_alone.Goals as goal

pub answer_decision-requires-clause-decides : goal.answer_decision-requires-clause-decides
answer_decision-requires-clause-decides c =
    decides_for c.decide_alone-decision.result _ _ _ _ _ _ c.problem_for-problem.ensures c.as_slice.ensures (sym c.requires.one)
    c.decide_alone-decision.ensures.decides

pub answer_decision-requires-clause-claims : goal.answer_decision-requires-clause-claims
answer_decision-requires-clause-claims c = claims_for c.decide_alone-decision.result _ _ c.problem_for-problem.ensures c.decide_alone-decision.ensures.claims

pub answer_decision-requires-clause-holds : goal.answer_decision-requires-clause-holds
answer_decision-requires-clause-holds c = holds_for c.decide_alone-decision.result _ _ c.problem_for-problem.ensures c.decide_alone-decision.ensures.holds
