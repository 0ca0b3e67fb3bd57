-- What a settlement makes of a book.
use Rattle.std.specs.Prelude.{◌≡◌, ◌++◌, ◌∷◌, [], ℕ, List, Option, Some, None, if◌then◌else◌, fold, length, nat_lt, slice_get}
use Rattle.std.specs.List.{list_all}
use Rattle.next_moves.specs.declared.links.Offer.{Offer}
use Rattle.next_moves.specs.Offers.{IsWholeNeighbourhood}
use Rattle.search_book.specs.declared.problem.Side.{Side}
use Rattle.search_book.specs.declared.entry.Entry.{Entry}
use Rattle.search_book.specs.declared.entry.Origin.TheVariants.{Child}
use Rattle.search_book.specs.declared.entry.Stage.TheVariants.{InFlight, Settled}
use Rattle.search_book.specs.declared.event.End.{End}
use Rattle.search_book.specs.declared.event.End.TheVariants.{Met, Spent, Exhausted}
use Rattle.search_book.specs.declared.event.Meeting.TheVariants.{Offered}
use Rattle.search_book.specs.declared.event.Event.TheVariants.{Settle}
use Rattle.search_book.specs.Entries.{StandsAt, same_side, is_settled, at_stage, id_of, new_entry}
use Rattle.search_book.specs.State.{State}

-- the entries once offers of one of them were taken, and the end where the book is over
pub record Taken : Type 0 where
  pub entries : List Entry
  pub end : Option End

-- a neighbour of an entry, by a link
abbrev pub child : ℕ → Side → Offer → Entry
child id side offer = new_entry offer.key side (Child id offer.link)

-- an offer of entry `id` with the key of entry `other`: where that one is of the other side the sides have met, and else the offer is passed over
abbrev pub met_or_passed_over : ℕ → Side → Offer → ℕ → Option Entry → Option End
met_or_passed_over id side offer other None = None
met_or_passed_over id side offer other (Some e) = if same_side e.side side then None else Some (Met (Offered id other offer.link))

-- an offer of entry `id` with a new key: within the budget it is admitted, and else the book is spent
abbrev pub admitted_or_spent : ℕ → ℕ → Side → List Entry → Offer → Taken
admitted_or_spent budget id side entries offer =
    if nat_lt (length entries) budget
    then record { entries = entries ++ child id side offer ∷ []; end = None }
    else record { entries = entries; end = Some (Spent offer.key) }

-- by the id of the entry that has the offer's key
abbrev pub taken_by : ℕ → ℕ → Side → List Entry → Offer → Option ℕ → Taken
taken_by budget id side entries offer (Some other) = record { entries = entries; end = met_or_passed_over id side offer other (slice_get entries other) }
taken_by budget id side entries offer None = admitted_or_spent budget id side entries offer

-- one offer is taken
abbrev pub taken_one : ℕ → ℕ → Side → List Entry → Offer → Taken
taken_one budget id side entries offer = taken_by budget id side entries offer (id_of entries offer.key)

-- what follows an end is not looked at
abbrev pub taken_until : ℕ → ℕ → Side → Taken → Offer → Option End → Taken
taken_until budget id side so_far offer None = taken_one budget id side so_far.entries offer
taken_until budget id side so_far offer (Some end) = so_far

-- one offer more is taken, unless one before ended the book
abbrev pub taken_next : ℕ → ℕ → Side → Taken → Offer → Taken
taken_next budget id side so_far offer = taken_until budget id side so_far offer so_far.end

-- the offers of entry `id`, which is of this side, are taken in order, up to the first that ends the book
abbrev pub taken_all : ℕ → ℕ → Side → List Entry → List Offer → Taken
taken_all budget id side entries offers = fold (taken_next budget id side) (record { entries = entries; end = None }) offers

-- where every entry is settled the book is over
abbrev pub exhausted_where_all_settled : List Entry → Option End
exhausted_where_all_settled entries = if list_all is_settled entries then Some Exhausted else None

-- all offers were taken: the entry is settled
abbrev pub settled_whole : ℕ → Entry → List Entry → Taken
settled_whole id e entries = record { entries = at_stage entries id e Settled; end = exhausted_where_all_settled (at_stage entries id e Settled) }

-- where an offer ended the book the entry stays in flight
abbrev pub settled_unless_over : ℕ → Entry → Taken → Option End → Taken
settled_unless_over id e so_far None = settled_whole id e so_far.entries
settled_unless_over id e so_far (Some end) = so_far

-- the entries and the end after a settlement
abbrev pub settled_entries : ℕ → ℕ → Entry → List Entry → List Offer → Taken
settled_entries budget id e entries offers =
    let all : Taken = taken_all budget id e.side entries offers in
    settled_unless_over id e all all.end

-- the book once the worker has settled this entry with these offers
abbrev pub after_settling : State → ℕ → ℕ → Entry → List Offer → State
after_settling s worker id e offers =
    let t : Taken = settled_entries s.problem.budget id e s.entries offers in
    record s { entries = t.entries; history = s.history ++ Settle worker id ∷ []; end = t.end }

-- the offers are all those of the entry's diagram within the cap
abbrev pub AreAllOffersOf : State → Entry → List Offer → Type 0
AreAllOffersOf s e offers = IsWholeNeighbourhood (record { origin = e.key; cap = s.problem.cap; offers = offers })

-- a worker settles the entry with this id, which is in flight for it
pub record Settles (s : State) (worker id : ℕ) (t : State) : Type 0 where
  pub not_over : s.end ≡ None
  pub entry : Entry
  pub stands : StandsAt s.entries id entry
  pub in_flight : entry.stage ≡ InFlight worker
  pub offers : List Offer
  pub whole : AreAllOffersOf s entry offers
  pub after : t ≡ after_settling s worker id entry offers
