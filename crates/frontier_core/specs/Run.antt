-- Pushes and pops one after the other, over the definitions alone.
use Rattle.std.specs.Prelude.{ℕ, suc, ◌<◌, List, [], ◌∷◌, ◌++◌, Option, Some, None, fold, map}
use Rattle.frontier_core.specs.declared.sizes.TheConstants.{SIZES}
use Rattle.frontier_core.specs.Held.{HeldIds, empty, pushed, first_of_least, without_first_of_least}
use Rattle.frontier_core.specs.Order.{SizedId, sized}

pub data Event : Type 0 where
  Push : ℕ → ℕ → Event
  Pop : Event

-- what is held, what went in so far and what came out, each in its order
pub record Run : Type 0 where
  pub held : HeldIds
  pub went_in : List SizedId
  pub came_out : List SizedId

-- the place of the first list that has an id
abbrev pub first_place : List (List ℕ) → ℕ
first_place [] = 0
first_place ([] ∷ greater) = suc (first_place greater)
first_place ((id ∷ ids) ∷ greater) = 0

-- a pop that answered this
abbrev pub after_pop : Run → Option ℕ → Run
after_pop r None = r
after_pop r (Some id) = record r {
  held = without_first_of_least r.held;
  came_out = r.came_out ++ sized id (first_place r.held.by_size) ∷ [];
}

abbrev pub after_event : Run → Event → Run
after_event r (Push id size) = record r { held = pushed r.held id size; went_in = r.went_in ++ sized id size ∷ [] }
after_event r Pop = after_pop r (first_of_least r.held)

-- the events, from a frontier that holds nothing
abbrev pub run : ℕ → List Event → Run
run capacity events = fold after_event (record { held = empty capacity; went_in = []; came_out = [] }) events

-- every size that is pushed is from 0 to 64
abbrev pub SizesFit : List Event → Type 0
SizesFit [] = Unit {0}
SizesFit (Push id size ∷ events) = (size < SIZES) × SizesFit events
SizesFit (Pop ∷ events) = SizesFit events

-- all that is held, by size
abbrev pub listed_from : ℕ → List (List ℕ) → List SizedId
listed_from size [] = []
listed_from size (ids ∷ greater) = map (λ id. sized id size) ids ++ listed_from (suc size) greater

abbrev pub all_held : HeldIds → List SizedId
all_held held = listed_from 0 held.by_size
