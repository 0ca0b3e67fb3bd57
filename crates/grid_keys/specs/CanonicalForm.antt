-- The canonical form: one diagram for all translates.
use Rattle.std.specs.Prelude.{◌≡◌, ◌<◌, ◌≤◌, ◌⊎◌, ℕ}
use Rattle.std.specs.List.{All, Contains}
use Rattle.grid_core.specs.Diagram.{Diagram, size}
use Rattle.grid_keys.specs.declared.least_form.LeastForm.{LeastForm}
use Rattle.grid_keys.specs.declared.least_form.LeastKey.{LeastKey}
use Rattle.grid_keys.specs.Translation.{translate, translates}
use Rattle.grid_keys.specs.Order.{IsAtMost}
use Rattle.grid_keys.specs.Key.{key_of}

-- e is the canonical form of d: the least of its translates
pub record IsCanonicalForm (d e : Diagram) : Type 0 where
  pub among : Contains (translates d) e
  pub least : All (λ t. IsAtMost e t) (translates d)

-- d is its own canonical form
abbrev pub IsCanonical : Diagram → Type 0
IsCanonical d = IsCanonicalForm d d

-- the canonical form of d, with the least shifts that reach it, by columns and then by rows
pub record IsLeastForm (d : Diagram) (form : LeastForm) : Type 0 where
  pub canonical : IsCanonicalForm d form.grid
  pub columns : form.columns < size d
  pub rows : form.rows < size d
  pub reached : translate d form.columns form.rows ≡ form.grid
  pub first : (a b : ℕ) → a < size d → b < size d → translate d a b ≡ form.grid → (form.columns < a) ⊎ ((form.columns ≡ a) × (form.rows ≤ b))

-- the key of the canonical form of d, with the least shifts that reach it
pub record IsLeastKey (d : Diagram) (found : LeastKey) : Type 0 where
  pub form : Diagram
  pub key : key_of form ≡ found.key
  pub least : IsLeastForm d (record { grid = form; columns = found.columns; rows = found.rows })
