-- How a form that the walks keep was reached: by its parent, the form before it on the way from its side's diagram, and by its depth, the
-- number of forms before it. A form's number is its place among the entries.
use Rattle.std.specs.Prelude.{◌+◌, ◌-◌, ◌^◌, ◌∷◌, [], ℕ, zero, suc, List, min, slice_get}
use Rattle.std.specs.Option.{option_map_or}
use Rattle.meeting_walks.specs.declared.table.Reached.{Reached}
use Rattle.meeting_walks.specs.declared.table.Side.{Side}

-- the form of a side's diagram is its own parent
abbrev pub at_root : ℕ → Side → Reached
at_root number side = record { parent = number; depth = 0; side = side }

-- a form that a move leads to from a parent of this depth; no more than 2^32 - 1 forms are counted
abbrev pub behind : ℕ → ℕ → Side → Reached
behind parent depth side = record { parent = parent; depth = min (depth + 1) (2 ^ 32 - 1); side = side }

-- the depth of the form with a number; 0 where there is none
abbrev pub depth_of : {A : Type 0} → List (A × Reached) → ℕ → ℕ
depth_of entries number = option_map_or (λ e. e.1.depth) (slice_get entries number) 0

-- n forms from the one with a number back, each the parent of the one before it; fewer where a parent isn't there
abbrev pub forms_back : {A : Type 0} → ℕ → List (A × Reached) → ℕ → List A
forms_back zero entries number = []
forms_back (suc n) entries number = option_map_or (λ e. e.0 ∷ forms_back n entries e.1.parent) (slice_get entries number) []

-- the way back from the form with a number: that form, and as many more as its depth says
abbrev pub way_back : {A : Type 0} → List (A × Reached) → ℕ → List A
way_back entries number = forms_back (depth_of entries number + 1) entries number
