-- What a verdict of a search is worth.
use Rattle.std.proofs.Common.{rules, ◌≡◌, ◌≢◌, ◌⊎◌, refl, ◌≤◌, sym, subst, ℕ, List, Option, Some, None, Result, Ok, Err, IfOk, length}
use Rattle.memory_core.specs.declared.out_of_memory.OutOfMemory.{OutOfMemory}
use Rattle.grid_core.specs.Diagram.{size}
use Rattle.grid_moves.proofs.Within.{within_joins}
use Rattle.next_moves.specs.Reach.{IsReached, HasMembers, HasMoreMembers}
use Rattle.mono_simplify.specs.declared.simplified.Simplified.{Simplified}
use Rattle.verdict_core.specs.Evidence.{Claims, VerdictHolds, HasEvidence}
use Rattle.quandle_core.specs.Names.{NamedQuandle}
use Rattle.verdict_core.specs.declared.verdict.Verdict.{Verdict}
use Rattle.verdict_core.specs.declared.verdict.Verdict.TheVariants.{Equal, Different, UnknownBudget, UnknownExhausted}
use Rattle.search_book.specs.declared.problem.Problem.{Problem}
use Rattle.search_book.specs.declared.event.End.{End}
use Rattle.search_book.specs.declared.event.End.TheVariants.{Met, Spent, Exhausted}
use Rattle.search_book.specs.State.{State}
use Rattle.search_book.specs.Ended.{Shows, IsReachedIn, IsJoined}
use Rattle.search_pool.specs.Finding.{IsFinding}
use Rattle.search_pool.specs.InTurn.{AreInTurn}
use Rattle.search_pool.specs.declared.finding.Finding.{Finding}
use Rattle.pair_verdict.specs.declared.decision.Decision.{Decision}
use Rattle.pair_verdict.specs.Separates.{first_separating, IsSeparation}
use Rattle.pair_verdict.specs.Searched.{AreSimplified, searched}
use Rattle.pair_verdict.specs.Decided.{IsVerdictAt, IsTrueWithin, JoinsWhereEqual, IsSearched}
use Rattle.pair_verdict.proofs.FirstFound.{none_told}
use Rattle.pair_verdict.proofs.SameReach.{joined_as, reached_as, members_as, more_as}
use Rattle.pair_verdict.proofs.SimplifiedPairs.{first_stands, second_stands}

-- by the end of the book of the simplified diagrams
pub true_within : (p : Problem) (one two : Simplified) (s : State) (end : Option End) (v : Verdict)
    → AreSimplified p one two → size p.first ≤ p.cap → size p.second ≤ p.cap
    → s.problem ≡ searched p one two → length s.entries ≤ s.problem.budget
    → ((e : End) → end ≡ Some e → Shows s e) → IsVerdictAt p one two s end v → JoinsWhereEqual p v → IsTrueWithin p v
true_within p one two s (Some (Met meeting)) v are first_fits second_fits is fit shows at joins =
    subst (IsTrueWithin p) (sym at.verdict) (subst (JoinsWhereEqual p) at.verdict joins)
true_within p one two s (Some (Spent refused)) v are first_fits second_fits is fit shows at joins =
    let more = subst (λ (q : Problem). HasMoreMembers (IsReachedIn q) q.budget) is (shows (Spent refused) refl) in
    let same = reached_as p.first p.second one.grid two.grid p.cap (first_stands p one two are first_fits) (second_stands p one two are second_fits) in
    subst (IsTrueWithin p) (sym at) (refl, more_as (IsReached one.grid two.grid p.cap) (IsReached p.first p.second p.cap) p.budget same more)
true_within p one two s (Some Exhausted) v are first_fits second_fits is fit shows at joins =
    let all = shows Exhausted refl in
    let k : ℕ = length s.entries in
    let few : k ≤ p.budget = subst (λ (q : Problem). k ≤ q.budget) is fit in
    let members = subst (λ (q : Problem). HasMembers (IsReachedIn q) k) is all.members in
    let apart = subst (λ (q : Problem). IsJoined q → ⊥) is all.apart in
    let first = first_stands p one two are first_fits in
    let second = second_stands p one two are second_fits in
    let same = reached_as p.first p.second one.grid two.grid p.cap first second in
    let counted = members_as (IsReached one.grid two.grid p.cap) (IsReached p.first p.second p.cap) k same members in
    subst (IsTrueWithin p) (sym at)
    (refl, (few, (counted, λ joined. apart ((joined_as p.first p.second one.grid two.grid p.cap first second).1 joined))))
true_within p one two s None v are first_fits second_fits is fit shows at joins = absurd at

-- what is true within the cap is true
pub claims_within : (p : Problem) (v : Verdict) → IsTrueWithin p v → Claims p.first p.second v
claims_within p (Equal moves) is = (moves, within_joins p.cap moves p.first p.second is)
claims_within p (Different listed one two) is = absurd is
claims_within p (UnknownBudget budget) is = search rules
claims_within p (UnknownExhausted cap k) is = search rules

pub holds_within : (p : Problem) (v : Verdict) → IsTrueWithin p v → HasEvidence v → VerdictHolds p.first p.second v
holds_within p (Equal moves) is has = within_joins p.cap moves p.first p.second is
holds_within p (Different listed one two) is has = absurd is
holds_within p (UnknownBudget budget) is has = absurd has
holds_within p (UnknownExhausted cap k) is has = absurd has

-- a search of the simplified diagrams where no quandle tells the given ones apart
pub was_searched : (p : Problem) (qs : List NamedQuandle) (workers : ℕ) (told : Option Verdict) (one two : Simplified) (f : Finding) (v : Verdict)
    (kept : Option Finding)
    → IsSeparation p.first p.second (first_separating p.first p.second qs) told → told ≡ None
    → AreSimplified p one two → size p.first ≤ p.cap → size p.second ≤ p.cap
    → kept ≡ Some f → IsFinding (searched p one two) f
    → (workers ≡ 1 → AreInTurn 0 f.book.history)
    → ((e : End) → f.book.end ≡ Some e → Shows f.book e) → IsVerdictAt p one two f.book f.book.end v → JoinsWhereEqual p v
    → IsSearched p qs workers v kept
was_searched p qs workers told one two f v kept separation none are first_fits second_fits is found in_turn shows at joins = record {
  none_does = none_told p.first p.second qs (subst (IsSeparation p.first p.second (first_separating p.first p.second qs)) none separation);
  one = one;
  two = two;
  simplified = are;
  finding = f;
  is_kept = is;
  found = found;
  in_turn = in_turn;
  verdict = at;
  true_within =
      true_within p one two f.book f.book.end v are first_fits second_fits found.problem found.sound.bounds.budget shows at joins;
}

-- and what was made of it, if there was memory
pub made : (p : Problem) (qs : List NamedQuandle) (workers : ℕ) (told : Option Verdict) (one two : Simplified) (f : Finding) (r : Result Decision OutOfMemory)
    → IsSeparation p.first p.second (first_separating p.first p.second qs) told → told ≡ None
    → AreSimplified p one two → size p.first ≤ p.cap → size p.second ≤ p.cap → IsFinding (searched p one two) f
    → (workers ≡ 1 → AreInTurn 0 f.book.history)
    → ((e : End) → f.book.end ≡ Some e → Shows f.book e) → IfOk r (λ d. d.kept ≡ Some f)
    → IfOk r (λ d. IsVerdictAt p one two f.book f.book.end d.verdict) → IfOk r (λ d. JoinsWhereEqual p d.verdict)
    → IfOk r (λ d. IsSearched p qs workers d.verdict d.kept)
made p qs workers told one two f (Ok d) separation none are first_fits second_fits found in_turn shows is at joins =
    was_searched p qs workers told one two f d.verdict d.kept separation none are first_fits second_fits is found in_turn shows at joins
made p qs workers told one two f (Err e) separation none are first_fits second_fits found in_turn shows is at joins = search rules
