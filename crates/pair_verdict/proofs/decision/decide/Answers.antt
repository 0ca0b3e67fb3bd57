use Rattle.std.proofs.Common.{subst, inl, inr, Option, IfOk}
use Rattle.std.proofs.lemmas.Result.{IfOk-weaker}
use Rattle.verdict_core.specs.declared.verdict.Verdict.{Verdict}
use Rattle.search_book.specs.declared.problem.Problem.{Problem}
use Rattle.search_pool.specs.Finding.{IsFinding}
use Rattle.pair_verdict.specs.Separates.{first_separating, IsSeparation}
use Rattle.pair_verdict.specs.Decided.{IsSearched}
use Rattle.pair_verdict.proofs.FirstFound.{told_holds, told_tidy}
use Rattle.pair_verdict.proofs.AnswerKinds.{tidy_where_decided}
use Rattle.pair_verdict.proofs.Verdicts.{claims_within, holds_within, made}
use Rattle.pair_verdict.proofs.decision.decide.Goals as goal
use Rattle.pair_verdict.proofs.decision.decide.Goals.{After-searched}

pub returns-in-Some-clause-holds : goal.returns-in-Some-clause-holds
returns-in-Some-clause-holds g c =
    let p = c.args.problem in
    let qs = c.args.quandles.now in
    λ has. told_holds p.first p.second qs c.in-Some.verdict
    (subst (λ (o : Option Verdict). IsSeparation p.first p.second (first_separating p.first p.second qs) o) c.in-Some.is c.in_ok-verdict.ensures.verdict)

by_search : (g : _) (c : After-searched g) → IfOk c.searched.result (λ d. IsSearched c.args.problem c.args.quandles.now c.args.workers d.verdict d.kept)
by_search g c = made c.args.problem c.args.quandles.now c.args.workers _ c.in_ok-pair.pair.first c.in_ok-pair.pair.second c.in_ok-finding.finding
    c.searched.result
    c.in_ok-verdict.ensures.verdict c.in_default.is c.in_ok-pair.ensures c.requires.bounded.first_fits c.requires.bounded.second_fits
    (subst (λ (p : Problem). IsFinding p c.in_ok-finding.finding) c.problem.ensures.problem c.in_ok-finding.ensures.finding)
    (λ one. absurd (c.if-workers-eq1.false one))
    c.in_ok-finding.ensures.shows c.searched.ensures.kept c.searched.ensures.verdict c.searched.ensures.joins

pub returns-clause-decides : goal.returns-clause-decides
returns-clause-decides g c = IfOk-weaker c.searched.result _ _ (λ d is. inr is) (by_search g c)

pub returns-clause-claims : goal.returns-clause-claims
returns-clause-claims g c = IfOk-weaker c.searched.result _ _ (λ d is. claims_within c.args.problem d.verdict is.true_within) (by_search g c)

pub returns-clause-holds : goal.returns-clause-holds
returns-clause-holds g c = IfOk-weaker c.searched.result _ _ (λ d is. holds_within c.args.problem d.verdict is.true_within) (by_search g c)

pub returns-clause-tidy : goal.returns-clause-tidy
returns-clause-tidy g c =
    IfOk-weaker c.searched.result _ _ (λ d is. tidy_where_decided c.args.problem c.args.quandles.now c.args.workers d.verdict d.kept (inr is)) (by_search g c)

pub returns-in-Some-clause-tidy : goal.returns-in-Some-clause-tidy
returns-in-Some-clause-tidy g c =
    let p = c.args.problem in
    let qs = c.args.quandles.now in
    told_tidy p.first p.second qs c.in-Some.verdict
    (subst (λ (o : Option Verdict). IsSeparation p.first p.second (first_separating p.first p.second qs) o) c.in-Some.is c.in_ok-verdict.ensures.verdict)
