-- Each answer of the book is at most one event, of the worker that asked.
use Rattle.std.proofs.Common.{◌≡◌, ℕ, refl, ap, inl, inr}
use Rattle.next_moves.specs.Offers.{Neighbourhood}
use Rattle.search_book.specs.declared.answer.Claim.{Claim as Answer}
use Rattle.search_book.specs.declared.answer.Claim.TheVariants.{Work, Later, Over}
use Rattle.search_book.specs.declared.answer.Settled.{Settled}
use Rattle.search_book.specs.declared.answer.Settled.TheVariants.{Done, Late, Stranger}
use Rattle.search_book.specs.declared.event.Event.TheVariants.{Claim, Settle}
use Rattle.search_book.specs.State.{State}
use Rattle.search_book.specs.Answers.{AnswersClaim, AnswersSettle}
use Rattle.search_book.proofs.Recorded.{problem_after}
use Rattle.search_pool.specs.Holding.{IsHolding}

pub claim_holds : (s t : State) (worker : ℕ) (answer : Answer) → AnswersClaim s worker answer t → IsHolding worker s t
claim_holds s t worker (Work ticket) is = inr (record { event = Claim worker; of_worker = refl; after = (ticket.id, is.0) })
claim_holds s t worker Later is = inl is.1
claim_holds s t worker (Over end) is = inl is.1

pub settle_holds : (s t : State) (worker id : ℕ) (offers : Neighbourhood) (answer : Settled) → AnswersSettle s worker id offers answer t → IsHolding worker s t
settle_holds s t worker id offers Done is = inr (record { event = Settle worker id; of_worker = refl; after = is.event })
settle_holds s t worker id offers Late is = inl is.1
settle_holds s t worker id offers (Stranger asked kept) is = inl is.unchanged

-- and the book stays one of its problem
pub claim_stays : (s t : State) (worker : ℕ) (answer : Answer) → AnswersClaim s worker answer t → t.problem ≡ s.problem
claim_stays s t worker (Work ticket) is = problem_after s t (Claim worker) (ticket.id, is.0)
claim_stays s t worker Later is = ap (λ (u : State). u.problem) is.1
claim_stays s t worker (Over end) is = ap (λ (u : State). u.problem) is.1

pub settle_stays : (s t : State) (worker id : ℕ) (offers : Neighbourhood) (answer : Settled) → AnswersSettle s worker id offers answer t
    → t.problem ≡ s.problem
settle_stays s t worker id offers Done is = problem_after s t (Settle worker id) is.event
settle_stays s t worker id offers Late is = ap (λ (u : State). u.problem) is.1
settle_stays s t worker id offers (Stranger asked kept) is = ap (λ (u : State). u.problem) is.unchanged
