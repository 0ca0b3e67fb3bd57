-- The verdict on two diagrams, and the search that stands behind it.
use Rattle.std.specs.Prelude.{◌≡◌, ◌≢◌, ◌≤◌, ◌⊎◌, ℕ, List, Option, Some, None, length}
use Rattle.grid_core.specs.Diagram.{size}
use Rattle.grid_moves.specs.declared.step.Move.{Move}
use Rattle.grid_moves.specs.Joining.{JoinsWithin, WithinCap}
use Rattle.grid_canon.specs.Tidied.{tidied}
use Rattle.quandle_core.specs.Names.{NamedQuandle}
use Rattle.verdict_core.specs.declared.verdict.Verdict.{Verdict}
use Rattle.verdict_core.specs.declared.verdict.Verdict.TheVariants.{Equal, Different, UnknownBudget, UnknownExhausted}
use Rattle.next_moves.specs.Reach.{IsReached, HasMembers, HasMoreMembers}
use Rattle.mono_simplify.specs.declared.simplified.Simplified.{Simplified}
use Rattle.search_book.specs.declared.problem.Problem.{Problem}
use Rattle.search_book.specs.declared.event.End.{End}
use Rattle.search_book.specs.declared.event.End.TheVariants.{Met, Spent, Exhausted}
use Rattle.search_book.specs.State.{State}
use Rattle.search_book.specs.Joining.{IsJoining}
use Rattle.search_pool.specs.declared.finding.Finding.{Finding}
use Rattle.search_pool.specs.Finding.{IsFinding}
use Rattle.search_pool.specs.InTurn.{AreInTurn}
use Rattle.pair_verdict.specs.Separates.{first_separating, IsDifferentBy}
use Rattle.pair_verdict.specs.Searched.{AreSimplified, searched, IsWholeList}

-- the first listed quandle that separates the diagrams, with both complete lists of colourings; there is no search
pub record IsToldApart (p : Problem) (quandles : List NamedQuandle) (v : Verdict) (kept : Option Finding) : Type 0 where
  pub quandle : NamedQuandle
  pub first_that_does : first_separating p.first p.second quandles ≡ Some quandle
  pub lists : IsDifferentBy p.first p.second quandle v
  pub none_kept : kept ≡ None

-- the list of a book whose sides have met joins the simplified diagrams, and with it the whole one the diagrams of the problem; the
-- verdict has the whole one tidied
pub record IsEqualByBook (p : Problem) (one two : Simplified) (s : State) (v : Verdict) : Type 0 where
  pub between : List Move
  pub list : List Move
  pub verdict : v ≡ Equal (tidied (size p.first) 0 0 list)
  pub joining : IsJoining s s.end between
  pub whole : IsWholeList p one two between list

-- what the end of a book of the simplified diagrams comes to
abbrev pub IsVerdictAt : Problem → Simplified → Simplified → State → Option End → Verdict → Type 0
IsVerdictAt p one two s (Some (Met meeting)) v = IsEqualByBook p one two s v
IsVerdictAt p one two s (Some (Spent refused)) v = v ≡ UnknownBudget p.budget
IsVerdictAt p one two s (Some Exhausted) v = v ≡ UnknownExhausted p.cap (length s.entries)
IsVerdictAt p one two s None v = ⊥

-- moves that are said to join the diagrams join them, and no diagram on the way is larger than the cap
abbrev pub JoinsWhereEqual : Problem → Verdict → Type 0
JoinsWhereEqual p (Equal moves) = JoinsWithin p.cap p.first moves p.second
JoinsWhereEqual p (Different listed one two) = Unit {0}
JoinsWhereEqual p (UnknownBudget budget) = Unit {0}
JoinsWhereEqual p (UnknownExhausted cap k) = Unit {0}

-- What the verdict of a search says is true: the moves join the diagrams, and no diagram on the way is larger than the cap; or
-- moves within the cap reach more canonical diagrams than the budget; or they reach as many as it says, at most the budget, and
-- do not join the two.
abbrev pub IsTrueWithin : Problem → Verdict → Type 0
IsTrueWithin p (Equal moves) = JoinsWithin p.cap p.first moves p.second
IsTrueWithin p (Different listed one two) = ⊥
IsTrueWithin p (UnknownBudget budget) = (budget ≡ p.budget) × HasMoreMembers (IsReached p.first p.second p.cap) budget
IsTrueWithin p (UnknownExhausted cap k) = (cap ≡ p.cap)
    × ((k ≤ p.budget) × (HasMembers (IsReached p.first p.second p.cap) k × (WithinCap p.first p.second p.cap → ⊥)))

-- No listed quandle separates the diagrams. Both were simplified, and a book of the simplified ones was brought to its end by so many
-- workers, and is kept. Where there was one worker it took all turns.
-- What is true within the cap is said of the diagrams as given.
pub record IsSearched (p : Problem) (quandles : List NamedQuandle) (workers : ℕ) (v : Verdict) (kept : Option Finding) : Type 0 where
  pub none_does : first_separating p.first p.second quandles ≡ None
  pub one : Simplified
  pub two : Simplified
  pub simplified : AreSimplified p one two
  pub finding : Finding
  pub is_kept : kept ≡ Some finding
  pub found : IsFinding (searched p one two) finding
  pub in_turn : workers ≡ 1 → AreInTurn 0 finding.book.history
  pub verdict : IsVerdictAt p one two finding.book finding.book.end v
  pub true_within : IsTrueWithin p v

-- the verdict on the two diagrams of a problem by these quandles and so many workers, and the search that is kept
abbrev pub Decides : Problem → List NamedQuandle → ℕ → Verdict → Option Finding → Type 0
Decides p quandles workers v kept = IsToldApart p quandles v kept ⊎ IsSearched p quandles workers v kept
