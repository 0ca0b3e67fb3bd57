-- What a frontier holds.
use Rattle.std.specs.Prelude.{ℕ, List, [], ◌∷◌, ◌++◌, Option, Some, None, Contains, slice_index_or, slice_set, replicate}
use Rattle.frontier_core.specs.declared.sizes.TheConstants.{SIZES}

-- How many ids there are room for, and what is held: at place s of `by_size` stands the list of the ids held of size s, in the order in which they were pushed.
pub record HeldIds : Type 0 where
  pub capacity : ℕ
  pub by_size : List (List ℕ)

-- the ids held of one size, in the order in which they were pushed
abbrev pub ids_of : HeldIds → ℕ → List ℕ
ids_of held size = slice_index_or held.by_size size []

-- the id is held, of some size
abbrev pub IsHeld : HeldIds → ℕ → Type 0
IsHeld held id = (size : ℕ) × Contains (ids_of held size) id

-- no id of any size
abbrev pub empty : ℕ → HeldIds
empty capacity = record { capacity = capacity; by_size = replicate SIZES [] }

-- the list of one size has the id at its end, and the others stay
abbrev pub pushed : HeldIds → ℕ → ℕ → HeldIds
pushed held id size = record held { by_size = slice_set held.by_size size (ids_of held size ++ id ∷ []) }

-- the first id of the first list that has one: of the least size, the one that was pushed first
abbrev pub first_id : List (List ℕ) → Option ℕ
first_id [] = None
first_id ([] ∷ greater) = first_id greater
first_id ((id ∷ ids) ∷ greater) = Some id

-- the lists without that id
abbrev pub without_first_id : List (List ℕ) → List (List ℕ)
without_first_id [] = []
without_first_id ([] ∷ greater) = [] ∷ without_first_id greater
without_first_id ((id ∷ ids) ∷ greater) = ids ∷ greater

abbrev pub first_of_least : HeldIds → Option ℕ
first_of_least held = first_id held.by_size

abbrev pub without_first_of_least : HeldIds → HeldIds
without_first_of_least held = record held { by_size = without_first_id held.by_size }
