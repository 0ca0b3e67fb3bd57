-- What a frontier holds as one list of ids with their sizes, in the order in which they were pushed.
use Rattle.std.specs.Prelude.{◌≡◌, ◌<◌, ◌≤◌, ◌==◌, ℕ, List, [], ◌∷◌, ◌++◌, Option, Some, None, All, map, filter}
use Rattle.frontier_core.specs.Held.{HeldIds, ids_of}

-- an id and the size under which it was pushed
pub record SizedId : Type 0 where
  pub id : ℕ
  pub size : ℕ

abbrev pub sized : ℕ → ℕ → SizedId
sized id size = record { id = id; size = size }

-- of a list of pairs, the ids of one size, in the order of the list
abbrev pub of_size : ℕ → List SizedId → List ℕ
of_size size pairs = map (λ (p : SizedId). p.id) (filter (λ (p : SizedId). p.size == size) pairs)

-- The pairs are what is held, in the order in which they were pushed. (The order of pairs of two sizes is not kept, so a frontier has several such
-- lists; whatever is said of one of them holds of each.)
abbrev pub IsOrderOf : List SizedId → HeldIds → Type 0
IsOrderOf order held = (size : ℕ) → ids_of held size ≡ of_size size order

-- The id stands in the list, all before it are of a greater size and none after it is of a smaller one, and the others are held still.
pub record TakesFirstOfLeast (order : List SizedId) (id : ℕ) (new : HeldIds) : Type 0 where
  pub before : List SizedId
  pub size : ℕ
  pub after : List SizedId
  pub stood : order ≡ before ++ sized id size ∷ after
  pub greater_before : All (λ (p : SizedId). size < p.size) before
  pub none_less_after : All (λ (p : SizedId). size ≤ p.size) after
  pub others_left : IsOrderOf (before ++ after) new

-- what a pop answers and leaves of the pairs; no id comes out exactly where there is no pair
abbrev pub PopsLeast : List SizedId → Option ℕ → HeldIds → Type 0
PopsLeast order None new = (order ≡ []) × IsOrderOf [] new
PopsLeast order (Some id) new = TakesFirstOfLeast order id new
