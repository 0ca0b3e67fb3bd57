-- How a book begins.
use Rattle.std.specs.Prelude.{◌≡◌, ◌∷◌, [], Some, None, if◌then◌else◌}
use Rattle.grid_keys.specs.declared.least_form.LeastForm.{LeastForm}
use Rattle.grid_keys.specs.CanonicalForm.{IsLeastForm}
use Rattle.grid_keys.specs.Key.{key_of, same_key}
use Rattle.search_book.specs.declared.problem.Problem.{Problem}
use Rattle.search_book.specs.declared.problem.Side.{Side}
use Rattle.search_book.specs.declared.problem.Side.TheVariants.{First, Second}
use Rattle.search_book.specs.declared.entry.Entry.{Entry}
use Rattle.search_book.specs.declared.entry.Origin.TheVariants.{Root}
use Rattle.search_book.specs.declared.event.End.TheVariants.{Met}
use Rattle.search_book.specs.declared.event.Meeting.TheVariants.{Roots}
use Rattle.search_book.specs.Entries.{new_entry}
use Rattle.search_book.specs.State.{State}

-- the entry of a root: its key, and the least shifts that reach it
abbrev pub root : Side → LeastForm → Entry
root side form = new_entry (key_of form.grid) side (Root form.columns form.rows)

-- both roots, unclaimed; where the forms are equal one root, and the sides have met
abbrev pub opened : Problem → LeastForm → LeastForm → State
opened p first second =
    if same_key (key_of first.grid) (key_of second.grid)
    then record { problem = p; entries = root First first ∷ []; history = []; end = Some (Met Roots) }
    else record { problem = p; entries = root First first ∷ root Second second ∷ []; history = []; end = None }

-- the book of a problem at its beginning
pub record Begins (p : Problem) (s : State) : Type 0 where
  pub first : LeastForm
  pub second : LeastForm
  pub of_first : IsLeastForm p.first first
  pub of_second : IsLeastForm p.second second
  pub opened : s ≡ opened p first second
