-- The list of moves of a book whose sides have met.
use Rattle.std.specs.Prelude.{◌≡◌, ◌++◌, ℕ, List, Bool, true, false, Option, Some, None}
use Rattle.grid_core.specs.Diagram.{Diagram}
use Rattle.grid_moves.specs.declared.step.Move.{Move}
use Rattle.grid_moves.specs.Joining.{Joins}
use Rattle.grid_keys.specs.declared.least_form.LeastForm.{LeastForm}
use Rattle.grid_keys.specs.CanonicalForm.{IsLeastForm}
use Rattle.grid_keys.specs.Shifts.{shift_moves}
use Rattle.next_moves.specs.declared.links.Link.{Link}
use Rattle.next_moves.specs.Links.{link_moves}
use Rattle.search_book.specs.Entries.{StandsAt}
use Rattle.search_book.specs.declared.problem.Side.{Side}
use Rattle.search_book.specs.declared.problem.Side.TheVariants.{First, Second}
use Rattle.search_book.specs.declared.entry.Entry.{Entry}
use Rattle.search_book.specs.declared.event.End.{End}
use Rattle.search_book.specs.declared.event.End.TheVariants.{Met, Spent, Exhausted}
use Rattle.search_book.specs.declared.event.Meeting.TheVariants.{Roots, Offered}
use Rattle.search_book.specs.State.{State}
use Rattle.search_book.specs.Path.{path}
use Rattle.grid_moves.specs.Undoing.{Undone}

-- both ways end at one diagram, the first from the first diagram and the second from the second, and the list is the first way, followed
-- by the second way undone
pub record IsThereAndBack (s : State) (first second : List Move) (list : List Move) : Type 0 where
  pub meeting : Diagram
  pub there : Joins s.problem.first first meeting
  pub back : List Move
  pub undone : Undone s.problem.second second meeting back
  pub is : list ≡ first ++ back

-- the roots are one diagram: the path of the first root, and the second diagram's shifts to it undone
pub record JoinsAtRoots (s : State) (list : List Move) : Type 0 where
  pub form : LeastForm
  pub least : IsLeastForm s.problem.second form
  pub is : IsThereAndBack s (path s.entries 0) (shift_moves form.columns form.rows) list

-- the link was offered by an entry of this side: it is gone along on that side
abbrev pub JoinsAtLink : State → ℕ → ℕ → Link → Side → List Move → Type 0
JoinsAtLink s id other link First list = IsThereAndBack s (path s.entries id ++ link_moves link) (path s.entries other) list
JoinsAtLink s id other link Second list = IsThereAndBack s (path s.entries other) (path s.entries id ++ link_moves link) list

-- the link was offered by entry `id`, and the list goes along it on the side of that entry
pub record JoinsAtOffer (s : State) (id other : ℕ) (link : Link) (list : List Move) : Type 0 where
  pub entry : Entry
  pub stands : StandsAt s.entries id entry
  pub is : JoinsAtLink s id other link entry.side list

-- the list that joins the two diagrams of a book over by this end
abbrev pub IsJoining : State → Option End → List Move → Type 0
IsJoining s (Some (Met Roots)) list = JoinsAtRoots s list
IsJoining s (Some (Met (Offered id other link))) list = JoinsAtOffer s id other link list
IsJoining s (Some (Spent refused)) list = ⊥
IsJoining s (Some Exhausted) list = ⊥
IsJoining s None list = ⊥

-- the sides have met
abbrev pub is_met : Option End → Bool
is_met (Some (Met meeting)) = true
is_met (Some (Spent refused)) = false
is_met (Some Exhausted) = false
is_met None = false
