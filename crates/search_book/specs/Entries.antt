-- Entries by their ids and by their keys, and their sides and stages.
use Rattle.std.specs.Prelude.{◌≡◌, ◌≢◌, ℕ, List, Bool, true, false, Option, Some, map, slice_get, slice_set}
use Rattle.std.specs.List.{position}
use Rattle.grid_keys.specs.declared.key.Packed.{Packed}
use Rattle.grid_keys.specs.Key.{same_key}
use Rattle.search_book.specs.declared.problem.Side.{Side}
use Rattle.search_book.specs.declared.problem.Side.TheVariants.{First, Second}
use Rattle.search_book.specs.declared.entry.Entry.{Entry}
use Rattle.search_book.specs.declared.entry.Origin.{Origin}
use Rattle.search_book.specs.declared.entry.Stage.{Stage}
use Rattle.search_book.specs.declared.entry.Stage.TheVariants.{Unclaimed, InFlight, Settled}

-- the entry with this id is e
abbrev pub StandsAt : List Entry → ℕ → Entry → Type 0
StandsAt entries id e = slice_get entries id ≡ Some e

-- the keys of the entries, by id
abbrev pub keys : List Entry → List Packed
keys entries = map (λ (e : Entry). e.key) entries

-- the sides of the entries, by id
abbrev pub sides : List Entry → List Side
sides entries = map (λ (e : Entry). e.side) entries

-- the id of the entry with this key
abbrev pub id_of : List Entry → Packed → Option ℕ
id_of entries key = position (λ (e : Entry). same_key e.key key) entries

-- the two sides are one
abbrev pub same_side : Side → Side → Bool
same_side First First = true
same_side First Second = false
same_side Second First = false
same_side Second Second = true

-- the stage of an entry that no worker has claimed
abbrev pub is_waiting_stage : Stage → Bool
is_waiting_stage Unclaimed = true
is_waiting_stage (InFlight worker) = false
is_waiting_stage Settled = false

-- no worker has claimed it
abbrev pub is_waiting : Entry → Bool
is_waiting e = is_waiting_stage e.stage

-- the stage of a settled entry
abbrev pub is_settled_stage : Stage → Bool
is_settled_stage Unclaimed = false
is_settled_stage (InFlight worker) = false
is_settled_stage Settled = true

-- the entry is settled
abbrev pub is_settled : Entry → Bool
is_settled e = is_settled_stage e.stage

-- some entry is not settled
abbrev pub HasUnsettled : List Entry → Type 0
HasUnsettled entries = (id : ℕ) × ((e : Entry) × (StandsAt entries id e × (e.stage ≢ Settled)))

-- the entry with this key, side and origin, which no worker has claimed
abbrev pub new_entry : Packed → Side → Origin → Entry
new_entry key side origin = record { key = key; side = side; origin = origin; stage = Unclaimed }

-- the entries, of which the one with this id, e, is now at another stage
abbrev pub at_stage : List Entry → ℕ → Entry → Stage → List Entry
at_stage entries id e stage = slice_set entries id (record e { stage = stage })
