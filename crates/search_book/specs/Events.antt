-- Histories: which of the events are claims, and which entries were settled.
use Rattle.std.specs.Prelude.{ℕ, List, [], ◌∷◌, Bool, true, false, length}
use Rattle.search_book.specs.declared.event.Event.{Event}
use Rattle.search_book.specs.declared.event.Event.TheVariants.{Claim, Settle}

-- the event is a claim
abbrev pub is_claim : Event → Bool
is_claim (Claim worker) = true
is_claim (Settle worker id) = false

-- the ids of the settlements, in order
abbrev pub settled_ids : List Event → List ℕ
settled_ids [] = []
settled_ids (Claim worker ∷ events) = settled_ids events
settled_ids (Settle worker id ∷ events) = id ∷ settled_ids events

-- how many settlements there are
abbrev pub settlements : List Event → ℕ
settlements events = length (settled_ids events)
