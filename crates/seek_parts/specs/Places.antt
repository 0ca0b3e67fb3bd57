-- What stands at each path.
use Rattle.std.specs.Prelude.{◌≡◌, ◌≢◌, ℕ, List, Option, Some, None}

-- the bytes of the file at each path, or none where no file is
abbrev pub Standing : Type 0
Standing = List ℕ → Option (List ℕ)

-- a file with this text was put at the path, and what stands elsewhere stayed, as far as it is told
abbrev pub PutsAt : Option Standing → Option Standing → List ℕ → List ℕ → Type 0
PutsAt None after path text = Unit {0}
PutsAt (Some before) None path text = ⊥
PutsAt (Some before) (Some after) path text = (after path ≡ Some text) × ((other : List ℕ) → other ≢ path → after other ≡ before other)
