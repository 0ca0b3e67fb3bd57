-- What is decided has a text.
use Rattle.std.proofs.Common.{◌≡◌, ◌≤◌, inl, inr, sym, subst, ℕ, List, true, Bool, Option, arith}
use Rattle.std.specs.List.{AllByRecursion}
use Rattle.grid_core.specs.Diagram.{Diagram, IsGrid, size}
use Rattle.grid_core.specs.declared.grid.TheConstants.{MAX_SIZE}
use Rattle.grid_moves.proofs.Within.{within_joins}
use Rattle.colour_list.specs.Listing.{lists_of}
use Rattle.quandle_core.specs.Names.{NamedQuandle}
use Rattle.verdict_core.specs.declared.verdict.Verdict.{Verdict}
use Rattle.verdict_core.specs.declared.verdict.Verdict.TheVariants.{Equal, Different, UnknownBudget, UnknownExhausted}
use Rattle.verdict_core.specs.Evidence.{VerdictHolds, TellsApart}
use Rattle.verdict_text.specs.declared.verdicts.Version.TheVariants.{Tidy}
use Rattle.knot_text.specs.Printed.{HasQuandleText, HasVerdictText, HasVersionText}
use Rattle.search_book.specs.declared.problem.TheConstants.{MAX_BUDGET}
use Rattle.search_book.specs.declared.problem.Problem.{Problem}
use Rattle.search_book.specs.Sound.{IsProblem}
use Rattle.search_pool.specs.declared.finding.Finding.{Finding}
use Rattle.pair_verdict.specs.Separates.{separates, IsDifferentBy}
use Rattle.pair_verdict.specs.Searched.{searched}
use Rattle.pair_verdict.specs.Decided.{Decides, IsTrueWithin}
use Rattle.pair_verdict.proofs.AnswerKinds.{tidy_where_decided}
use Rattle.pair_verdict.proofs.FirstFound.{find_passes, holds_by}
use Rattle.verdict_laws.specs.VerdictDecision.{HasFewMoves}
use Rattle.verdict_laws.proofs.PrintedVerdicts.{FewColourings, moves_text, told_text, found}

-- ---- verdicts

-- by a quandle that has a text
different_text : FewColourings → (d e : Diagram) (q : NamedQuandle) (v : Verdict) → IsGrid d → IsGrid e → HasQuandleText q
    → separates d e q.table ≡ true → IsDifferentBy d e q v
    → HasVerdictText (size d) (size e) v
different_text few d e q v first second named is lists =
    let told : TellsApart q.table d e (lists_of lists.one) (lists_of lists.two) = subst (VerdictHolds d e) lists.verdict (holds_by d e q v is lists) in
    subst (HasVerdictText (size d) (size e)) (sym lists.verdict) (told_text few d e q lists.one lists.two first second named told)

-- of a search
searched_text : (p : Problem) (v : Verdict) → p.cap ≤ MAX_SIZE → p.budget ≤ MAX_BUDGET → IsTrueWithin p v → HasFewMoves v
    → HasVerdictText (size p.first) (size p.second) v
searched_text p (Equal moves) small most is short = moves_text moves p.first p.second (within_joins p.cap moves p.first p.second is) short
searched_text p (Different listed one two) small most is short = absurd is
searched_text p (UnknownBudget budget) small most is short = let same = is.0 in omega (arith, same, most)
searched_text p (UnknownExhausted cap k) small most is short =
    let same = is.0 in
    let few = is.1.0 in
    (omega (arith, same, small), omega (arith, few, most))

-- of a decision
pub decided_text : FewColourings → (p : Problem) (qs : List NamedQuandle) (workers : ℕ) (v : Verdict) (kept : Option Finding) → IsGrid p.first → IsGrid p.second
    → AllByRecursion HasQuandleText qs → Decides p qs workers v kept → HasFewMoves v → HasVersionText Tidy (size p.first) (size p.second) v
decided_text few p qs workers v kept first second named decides short = (plain, tidy_where_decided p qs workers v kept decides)
  where
    separated : Problem → NamedQuandle → Bool
    separated p q = separates p.first p.second q.table

    plain : HasVerdictText (size p.first) (size p.second) v
    plain = elim decides [
      | inl told ↦
          different_text few p.first p.second told.quandle v first second (found HasQuandleText (separated p) qs told.quandle named told.first_that_does)
          (find_passes (separated p) qs told.quandle told.first_that_does) told.lists
      | inr was ↦
          let problem : IsProblem (searched p was.one was.two) = subst IsProblem was.found.problem was.found.sound.problem in
          searched_text p v problem.bounded.cap problem.bounded.most was.true_within short
    ]
