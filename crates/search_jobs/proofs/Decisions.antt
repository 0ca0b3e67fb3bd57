-- Verdicts that are printed with Done, and decisions on the problem of an input.
use Rattle.std.proofs.Common.{rules, ◌≡◌, subst, ℕ, List, Result, IfOk}
use Rattle.memory_core.specs.declared.out_of_memory.OutOfMemory.{OutOfMemory}
use Rattle.search_book.specs.declared.problem.Problem.{Problem}
use Rattle.verdict_core.specs.declared.verdict.Verdict.{Verdict}
use Rattle.verdict_core.specs.declared.verdict.Verdict.TheVariants.{Equal, Different, UnknownBudget, UnknownExhausted}
use Rattle.verdict_core.specs.Evidence.{Claims, VerdictHolds, HasEvidence}
use Rattle.quandle_core.specs.Names.{NamedQuandle}
use Rattle.pair_verdict.specs.declared.decision.Decision.{Decision}
use Rattle.pair_verdict.specs.Decided.{Decides}
use Rattle.knot_ports.specs.declared.status.Status.TheVariants as status
use Rattle.search_jobs.specs.Decide.{verdict_status}

-- they have evidence
pub has_evidence : (v : Verdict) → verdict_status v ≡ status.Done → HasEvidence v
has_evidence (Equal moves) done = search rules
has_evidence (Different listed one two) done = search rules
has_evidence (UnknownBudget budget) done = absurd (let wrong : status.Unknown ≡ status.Done = done in cc)
has_evidence (UnknownExhausted cap admitted) done = absurd (let wrong : status.Unknown ≡ status.Done = done in cc)

-- a decision on this problem by these quandles and so many workers is one on the same in other words
pub decides_for : (r : Result Decision OutOfMemory) (p q : Problem) (qs rs : List NamedQuandle) (n m : ℕ) → p ≡ q → qs ≡ rs → n ≡ m
    → IfOk r (λ d. Decides p qs n d.verdict d.kept) → IfOk r (λ d. Decides q rs m d.verdict d.kept)
decides_for r p q qs rs n m problem quandles workers is =
    subst (λ (k : ℕ). IfOk r (λ d. Decides q rs k d.verdict d.kept)) workers
    (subst (λ (ls : List NamedQuandle). IfOk r (λ d. Decides q ls n d.verdict d.kept)) quandles
    (subst (λ (x : Problem). IfOk r (λ d. Decides x qs n d.verdict d.kept)) problem is))

pub claims_for : (r : Result Decision OutOfMemory) (p q : Problem) → p ≡ q → IfOk r (λ d. Claims p.first p.second d.verdict)
    → IfOk r (λ d. Claims q.first q.second d.verdict)
claims_for r p q problem is = subst (λ (x : Problem). IfOk r (λ d. Claims x.first x.second d.verdict)) problem is

pub holds_for : (r : Result Decision OutOfMemory) (p q : Problem) → p ≡ q → IfOk r (λ d. HasEvidence d.verdict → VerdictHolds p.first p.second d.verdict)
    → IfOk r (λ d. HasEvidence d.verdict → VerdictHolds q.first q.second d.verdict)
holds_for r p q problem is = subst (λ (x : Problem). IfOk r (λ d. HasEvidence d.verdict → VerdictHolds x.first x.second d.verdict)) problem is
