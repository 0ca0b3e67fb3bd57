-- A verdict that holds of the diagrams of an input, by moves or by a quandle that has a text, is a decision on the input.
use Rattle.std.proofs.Common.{rules, ◌≡◌, refl, ℕ, List, Ok}
use Rattle.grid_core.specs.Diagram.{Diagram}
use Rattle.colour_list.specs.Listing.{lists_of}
use Rattle.verdict_core.specs.declared.problem.ProblemText.{ProblemText}
use Rattle.verdict_core.specs.declared.verdict.Verdict.{Verdict}
use Rattle.verdict_core.specs.declared.verdict.Verdict.TheVariants.{Equal, Different, UnknownBudget, UnknownExhausted}
use Rattle.verdict_core.specs.Diagrams.{grid_of}
use Rattle.verdict_core.specs.Evidence.{Claims, VerdictHolds, HasEvidence, IsTidyVerdict}
use Rattle.quandle_core.proofs.Named.{named_is}
use Rattle.cert_check.proofs.ToldApart.{told_apart}
use Rattle.knot_text.specs.Printed.{version_text}
use Rattle.verdict_text.specs.declared.verdicts.Version.TheVariants.{Tidy}
use Rattle.verdict_text.specs.Problems.{problem_of}
use Rattle.verdict_laws.specs.VerdictDecision.{IsDecisionByVerdict, IsByWrittenQuandle}
use Rattle.verdict_laws.proofs.Grids.{grids_of_problem}
use Rattle.verdict_laws.proofs.PrintedVerdicts.{FewColourings, held_text}
use Rattle.verdict_laws.proofs.AcceptedBehind.{accepted_behind}

-- it has evidence
evident : (d e : Diagram) (v : Verdict) → VerdictHolds d e v → HasEvidence v
evident d e (Equal moves) holds = search rules
evident d e (Different q one two) holds = search rules
evident d e (UnknownBudget budget) holds = absurd holds
evident d e (UnknownExhausted cap k) holds = absurd holds

-- what it says is true
pub true_of : (d e : Diagram) (v : Verdict) → IsByWrittenQuandle v → VerdictHolds d e v → Claims d e v
true_of d e (Equal moves) written holds = (moves, holds)
true_of d e (Different q one two) named told = told_apart q.table d e (lists_of one) (lists_of two) (named_is q.name q.table named.names) told
true_of d e (UnknownBudget budget) written holds = absurd holds
true_of d e (UnknownExhausted cap k) written holds = absurd holds

pub held_decides : FewColourings → (bytes : List ℕ) (p : ProblemText) (v : Verdict) → problem_of bytes ≡ Ok p
    → VerdictHolds (grid_of p.first) (grid_of p.second) v → IsByWrittenQuandle v → IsTidyVerdict v → IsDecisionByVerdict bytes (version_text Tidy v)
held_decides few bytes p v read holds written tidy =
    let d = grid_of p.first in
    let e = grid_of p.second in
    let grids = grids_of_problem bytes p read in
    record {
      problem = p;
      read = read;
      verdict = v;
      is = refl;
      evidence = evident d e v holds;
      holds = holds;
      is_true = true_of d e v written holds;
      accepted = accepted_behind bytes p v read (λ short. (held_text few d e v grids.0 grids.1 written holds short, tidy)) holds;
    }
