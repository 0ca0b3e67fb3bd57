-- The kind of a verdict, by what moves reach and by the budget.
use Rattle.std.proofs.Common.{◌≡◌, Bool, ◌≤◌, ◌⊎◌, ◌∙◌, inl, inr, ap, sym, refl, subst, ℕ, List, Option, Some, None, arith}
use Rattle.std.specs.List.{All, find, position_or_len}
use Rattle.std.proofs.lemmas.List.Folds.{find_at}
use Rattle.std.proofs.lemmas.Option.{slice_get_within, get_or_from_slice_get}
use Rattle.grid_core.specs.Diagram.{Diagram}
use Rattle.grid_moves.specs.declared.step.Move.{Move}
use Rattle.grid_moves.specs.Joining.{WithinCap}
use Rattle.quandle_core.specs.Quandle.{IsQuandle}
use Rattle.colour_list.specs.Listing.{lists_of}
use Rattle.grid_core.specs.Diagram.{size}
use Rattle.grid_canon.proofs.Tidied.{tidied_is_tidy}
use Rattle.mono_simplify.specs.declared.simplified.Simplified.{Simplified}
use Rattle.search_book.specs.declared.event.End.{End}
use Rattle.search_book.specs.declared.event.End.TheVariants.{Met, Spent, Exhausted}
use Rattle.search_book.specs.State.{State}
use Rattle.verdict_core.specs.Evidence.{IsTidyVerdict, Claims, VerdictHolds, TellsApart, HasEvidence}
use Rattle.cert_check.proofs.ToldApart.{told_apart}
use Rattle.quandle_core.specs.Names.{NamedQuandle}
use Rattle.verdict_core.specs.declared.verdict.Verdict.{Verdict}
use Rattle.verdict_core.specs.declared.verdict.Verdict.TheVariants.{Equal, Different, UnknownBudget, UnknownExhausted}
use Rattle.next_moves.specs.Reach.{IsReached, HasMembers, HasMoreMembers}
use Rattle.next_moves.proofs.HowMany.{one_number, more_excluded}
use Rattle.search_book.specs.declared.problem.Problem.{Problem}
use Rattle.search_pool.specs.declared.finding.Finding.{Finding}
use Rattle.pair_verdict.specs.Separates.{separates, first_separating, IsDifferentBy}
use Rattle.pair_verdict.specs.Decided.{Decides, IsVerdictAt, IsToldApart, IsTrueWithin}
use Rattle.pair_verdict.proofs.FirstFound.{find_passes, holds_by}
use Rattle.pair_verdict.proofs.Verdicts.{claims_within, holds_within}

-- what was decided where no quandle separates the diagrams is true within the cap
true_of : (p : Problem) (qs : List NamedQuandle) (workers : ℕ) (v : Verdict) (kept : Option Finding) → Decides p qs workers v kept
    → first_separating p.first p.second qs ≡ None → IsTrueWithin p v
true_of p qs workers v kept decides none = elim decides [
  | inl told ↦ absurd (let wrong : ◌≡◌ {A = Option NamedQuandle} None (Some told.quandle) = sym none ∙ told.first_that_does in cc)
  | inr searched ↦ searched.true_within
]

-- the verdict of each kind, where it is true
pub joined_by : (p : Problem) (v : Verdict) (k : ℕ) → IsTrueWithin p v → WithinCap p.first p.second p.cap
    → HasMembers (IsReached p.first p.second p.cap) k → k ≤ p.budget → (moves : List Move) × (v ≡ Equal moves)
joined_by p (Equal moves) k is joined all few = (moves, refl)
joined_by p (Different listed one two) k is joined all few = absurd is
joined_by p (UnknownBudget budget) k is joined all few =
    absurd (let more = more_excluded (IsReached p.first p.second p.cap) k budget all is.1 in let same = is.0 in omega (arith, more, same, few))
joined_by p (UnknownExhausted cap m) k is joined all few = absurd (is.1.1.1 joined)

pub joined_or_spent : (p : Problem) (v : Verdict) → IsTrueWithin p v → WithinCap p.first p.second p.cap
    → ((moves : List Move) × (v ≡ Equal moves)) ⊎ (v ≡ UnknownBudget p.budget)
joined_or_spent p (Equal moves) is joined = inl (moves, refl)
joined_or_spent p (Different listed one two) is joined = absurd is
joined_or_spent p (UnknownBudget budget) is joined = inr (ap UnknownBudget is.0)
joined_or_spent p (UnknownExhausted cap m) is joined = absurd (is.1.1.1 joined)

pub exhausted_by : (p : Problem) (v : Verdict) (k : ℕ) → IsTrueWithin p v → (WithinCap p.first p.second p.cap → ⊥)
    → HasMembers (IsReached p.first p.second p.cap) k → k ≤ p.budget → v ≡ UnknownExhausted p.cap k
exhausted_by p (Equal moves) k is apart all few = absurd (apart (moves, is))
exhausted_by p (Different listed one two) k is apart all few = absurd is
exhausted_by p (UnknownBudget budget) k is apart all few =
    absurd (let more = more_excluded (IsReached p.first p.second p.cap) k budget all is.1 in let same = is.0 in omega (arith, more, same, few))
exhausted_by p (UnknownExhausted cap m) k is apart all few =
    ap (λ (n : ℕ). UnknownExhausted n m) is.0 ∙ ap (UnknownExhausted p.cap) (one_number (IsReached p.first p.second p.cap) m k is.1.1.0 all)

pub spent_by : (p : Problem) (v : Verdict) → IsTrueWithin p v → (WithinCap p.first p.second p.cap → ⊥)
    → HasMoreMembers (IsReached p.first p.second p.cap) p.budget → v ≡ UnknownBudget p.budget
spent_by p (Equal moves) is apart more = absurd (apart (moves, is))
spent_by p (Different listed one two) is apart more = absurd is
spent_by p (UnknownBudget budget) is apart more = ap UnknownBudget is.0
spent_by p (UnknownExhausted cap m) is apart more =
    absurd (let fewer = more_excluded (IsReached p.first p.second p.cap) m p.budget is.1.1.0 more in let few = is.1.0 in omega (arith, fewer, few))

pub joined : (p : Problem) (qs : List NamedQuandle) (workers : ℕ) (v : Verdict) (kept : Option Finding) (k : ℕ) → Decides p qs workers v kept
    → first_separating p.first p.second qs ≡ None → WithinCap p.first p.second p.cap → HasMembers (IsReached p.first p.second p.cap) k → k ≤ p.budget
    → (moves : List Move) × (v ≡ Equal moves)
joined p qs workers v kept k decides none = joined_by p v k (true_of p qs workers v kept decides none)

pub joined_beyond : (p : Problem) (qs : List NamedQuandle) (workers : ℕ) (v : Verdict) (kept : Option Finding) → Decides p qs workers v kept
    → first_separating p.first p.second qs ≡ None → WithinCap p.first p.second p.cap
    → ((moves : List Move) × (v ≡ Equal moves)) ⊎ (v ≡ UnknownBudget p.budget)
joined_beyond p qs workers v kept decides none = joined_or_spent p v (true_of p qs workers v kept decides none)

pub apart : (p : Problem) (qs : List NamedQuandle) (workers : ℕ) (v : Verdict) (kept : Option Finding) (k : ℕ) → Decides p qs workers v kept
    → first_separating p.first p.second qs ≡ None → (WithinCap p.first p.second p.cap → ⊥) → HasMembers (IsReached p.first p.second p.cap) k
    → k ≤ p.budget → v ≡ UnknownExhausted p.cap k
apart p qs workers v kept k decides none = exhausted_by p v k (true_of p qs workers v kept decides none)

pub apart_beyond : (p : Problem) (qs : List NamedQuandle) (workers : ℕ) (v : Verdict) (kept : Option Finding) → Decides p qs workers v kept
    → first_separating p.first p.second qs ≡ None → (WithinCap p.first p.second p.cap → ⊥)
    → HasMoreMembers (IsReached p.first p.second p.cap) p.budget → v ≡ UnknownBudget p.budget
apart_beyond p qs workers v kept decides none = spent_by p v (true_of p qs workers v kept decides none)

-- ---- the moves of a decision are tidy

tidy_at : (p : Problem) (one two : Simplified) (s : State) (end : Option End) (v : Verdict) → IsVerdictAt p one two s end v → IsTidyVerdict v
tidy_at p one two s (Some (Met meeting)) v at = subst (λ (w : Verdict). IsTidyVerdict w) (sym at.verdict) (tidied_is_tidy at.list (size p.first))
tidy_at p one two s (Some (Spent refused)) v at = subst (λ (w : Verdict). IsTidyVerdict w) (sym at) tt
tidy_at p one two s (Some Exhausted) v at = subst (λ (w : Verdict). IsTidyVerdict w) (sym at) tt
tidy_at p one two s None v at = absurd at

pub tidy_where_decided : (p : Problem) (qs : List NamedQuandle) (workers : ℕ) (v : Verdict) (kept : Option Finding) → Decides p qs workers v kept
    → IsTidyVerdict v
tidy_where_decided p qs workers v kept decides = elim decides [
  | inl told ↦ subst (λ (w : Verdict). IsTidyVerdict w) (sym told.lists.verdict) tt
  | inr searched ↦ tidy_at p searched.one searched.two searched.finding.book searched.finding.book.end v searched.verdict
]

-- ---- what a decision is worth

told_holds_by : (p : Problem) (qs : List NamedQuandle) (v : Verdict) (kept : Option Finding) → IsToldApart p qs v kept → VerdictHolds p.first p.second v
told_holds_by p qs v kept told =
    holds_by p.first p.second told.quandle v (find_passes
    (λ (q : NamedQuandle). separates p.first p.second q.table) qs told.quandle told.first_that_does) told.lists

pub holds_where_decided : (p : Problem) (qs : List NamedQuandle) (workers : ℕ) (v : Verdict) (kept : Option Finding) → Decides p qs workers v kept
    → HasEvidence v → VerdictHolds p.first p.second v
holds_where_decided p qs workers v kept decides has = elim decides [
  | inl told ↦ told_holds_by p qs v kept told
  | inr searched ↦ holds_within p v searched.true_within has
]

-- what is found stands in the list
find_among : {X : Type 0} (P : X → Type 0) (p : X → Bool) (xs : List X) (x : X) → All P xs → find p xs ≡ Some x → P x
find_among P p xs x all is =
    let here = get_or_from_slice_get xs (position_or_len p xs) x x (sym (find_at p xs) ∙ is) in
    let within = slice_get_within xs (position_or_len p xs) x (sym (find_at p xs) ∙ is) in
    subst P here (all (position_or_len p xs) x within)

claims_by : (d e : Diagram) (q : NamedQuandle) (v w : Verdict) → IsQuandle q.table → IsDifferentBy d e q v → VerdictHolds d e v → v ≡ w → Claims d e w
claims_by d e q v w quandle lists holds same =
    let told : TellsApart q.table d e (lists_of lists.one) (lists_of lists.two) = subst (VerdictHolds d e) lists.verdict holds in
    subst (Claims d e) (sym lists.verdict ∙ same) (told_apart q.table d e (lists_of lists.one) (lists_of lists.two) quandle told)

pub claims_where_decided : (p : Problem) (qs : List NamedQuandle) (workers : ℕ) (v : Verdict) (kept : Option Finding)
    → All (λ (q : NamedQuandle). IsQuandle q.table) qs → Decides p qs workers v kept → Claims p.first p.second v
claims_where_decided p qs workers v kept quandles decides = elim decides [
  | inl told ↦ claims_by p.first p.second told.quandle v v (find_among (λ (q : NamedQuandle). IsQuandle q.table)
      (λ (q : NamedQuandle). separates p.first p.second q.table) qs told.quandle quandles told.first_that_does) told.lists (told_holds_by p qs v kept told) refl
  | inr searched ↦ claims_within p v searched.true_within
]
