-- What a claim makes of a book.
use Rattle.std.specs.Prelude.{◌≡◌, ◌<◌, ◌≤◌, ◌⊎◌, ◌++◌, ◌∷◌, [], ℕ, List, None}
use Rattle.grid_keys.specs.Key.{size_of}
use Rattle.search_book.specs.declared.entry.Entry.{Entry}
use Rattle.search_book.specs.declared.entry.Stage.TheVariants.{Unclaimed, InFlight}
use Rattle.search_book.specs.declared.event.Event.TheVariants.{Claim}
use Rattle.search_book.specs.Entries.{StandsAt, at_stage}
use Rattle.search_book.specs.State.{State}

-- of the unclaimed entries this one has the least size, and of those of that size the lowest id
pub record IsNext (entries : List Entry) (id : ℕ) (e : Entry) : Type 0 where
  pub stands : StandsAt entries id e
  pub unclaimed : e.stage ≡ Unclaimed
  pub least : (i : ℕ) (f : Entry) → StandsAt entries i f → f.stage ≡ Unclaimed
      → (size_of e.key < size_of f.key) ⊎ ((size_of e.key ≡ size_of f.key) × (id ≤ i))

-- the book once the worker has claimed this entry, which is now in flight for it
abbrev pub after_claim : State → ℕ → ℕ → Entry → State
after_claim s worker id e = record s { entries = at_stage s.entries id e (InFlight worker); history = s.history ++ Claim worker ∷ [] }

-- a worker claims the entry with this id
pub record ClaimsEntry (s : State) (worker id : ℕ) (t : State) : Type 0 where
  pub not_over : s.end ≡ None
  pub entry : Entry
  pub next : IsNext s.entries id entry
  pub after : t ≡ after_claim s worker id entry
