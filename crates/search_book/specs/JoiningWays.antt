-- The private part of Joining: the ways from the two diagrams of a problem to where the sides met. Only private clauses and proofs cite this file.
use Rattle.std.specs.Prelude.{◌≡◌, ◌<◌, ◌++◌, ◌∷◌, [], ℕ, List, Option, Some, None, slice_get}
use Rattle.grid_core.specs.Diagram.{Diagram}
use Rattle.grid_moves.specs.declared.step.Move.{Move}
use Rattle.grid_keys.specs.declared.least_form.LeastForm.{LeastForm}
use Rattle.grid_keys.specs.CanonicalForm.{IsLeastForm}
use Rattle.grid_keys.specs.Shifts.{shift_moves}
use Rattle.next_moves.specs.declared.links.Link.{Link}
use Rattle.next_moves.specs.Links.{link_moves}
use Rattle.search_book.specs.Entries.{StandsAt}
use Rattle.search_book.specs.declared.problem.Side.{Side}
use Rattle.search_book.specs.declared.problem.Side.TheVariants.{First, Second}
use Rattle.search_book.specs.declared.entry.Entry.{Entry}
use Rattle.search_book.specs.declared.entry.Origin.{Origin}
use Rattle.search_book.specs.declared.entry.Origin.TheVariants.{Root, Child}
use Rattle.search_book.specs.declared.event.Meeting.{Meeting}
use Rattle.search_book.specs.declared.event.Meeting.TheVariants.{Roots, Offered}
use Rattle.search_book.specs.State.{State}
use Rattle.search_book.specs.Path.{path}

-- every parent has a lower id than its children
abbrev pub ParentsComeFirst : List Entry → Type 0
ParentsComeFirst entries = (id : ℕ) (e : Entry) (parent : ℕ) (link : Link) → StandsAt entries id e → e.origin ≡ Child parent link → parent < id

-- what leads to an entry from its parent, or from its side's diagram
abbrev pub own_moves : Origin → List Move
own_moves (Root columns rows) = shift_moves columns rows
own_moves (Child parent link) = link_moves link

-- the own moves of an entry, or none where there is no entry
abbrev pub own_moves_at : Option Entry → List Move
own_moves_at None = []
own_moves_at (Some e) = own_moves e.origin

-- the own moves of these entries, from the last id to the first
abbrev pub way_down : List Entry → List ℕ → List Move
way_down entries [] = []
way_down entries (id ∷ ids) = way_down entries ids ++ own_moves_at (slice_get entries id)

-- the path of the first root, and the second diagram's shifts to the common form
pub record AreRootWays (entries : List Entry) (diagram : Diagram) (first second : List Move) : Type 0 where
  pub form : LeastForm
  pub least : IsLeastForm diagram form
  pub along : first ≡ path entries 0
  pub across : second ≡ shift_moves form.columns form.rows

-- the path and the link of the entry that offered, which is of this side, and the path of the offered one
abbrev pub AreLinkWays : List Entry → ℕ → ℕ → Link → Side → List Move → List Move → Type 0
AreLinkWays entries id other link First first second = (first ≡ path entries id ++ link_moves link) × (second ≡ path entries other)
AreLinkWays entries id other link Second first second = (first ≡ path entries other) × (second ≡ path entries id ++ link_moves link)

-- the ways from the first and from the second diagram to where the sides met
abbrev pub AreWays : State → Meeting → List Move → List Move → Type 0
AreWays s Roots first second = AreRootWays s.entries s.problem.second first second
AreWays s (Offered id other link) first second =
    (e : Entry) × (StandsAt s.entries id e × AreLinkWays s.entries id other link e.side first second)
