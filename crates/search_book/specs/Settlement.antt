-- A settlement in words: which offers were passed over, which were admitted, which one ended the book, and what the book is then.
use Rattle.std.specs.Prelude.{◌≡◌, ◌≢◌, ◌≤◌, ◌⊎◌, ◌++◌, ◌∷◌, [], ℕ, List, Bool, length, map}
use Rattle.std.specs.Prelude.{Option, Some, None, if◌then◌else◌}
use Rattle.std.specs.List.{All, list_any}
use Rattle.grid_keys.specs.declared.key.Packed.{Packed}
use Rattle.grid_keys.specs.Key.{same_key}
use Rattle.next_moves.specs.declared.links.Offer.{Offer}
use Rattle.search_book.specs.declared.problem.Side.{Side}
use Rattle.search_book.specs.declared.entry.Entry.{Entry}
use Rattle.search_book.specs.declared.entry.Origin.TheVariants.{Child}
use Rattle.search_book.specs.declared.entry.Stage.TheVariants.{Unclaimed, Settled}
use Rattle.search_book.specs.declared.event.End.{End}
use Rattle.search_book.specs.declared.event.End.TheVariants.{Met, Spent, Exhausted}
use Rattle.search_book.specs.declared.event.Meeting.TheVariants.{Offered}
use Rattle.search_book.specs.declared.event.Event.TheVariants.{Settle}
use Rattle.search_book.specs.State.{State}
use Rattle.search_book.specs.Entries.{StandsAt, HasUnsettled, at_stage, keys}
use Rattle.search_book.specs.Sound.{IsKeyOfSide}

-- no entry has this key
abbrev pub IsNewKey : List Entry → Packed → Type 0
IsNewKey entries key = All (λ (k : Packed). k ≢ key) (keys entries)

-- the key is one of these
abbrev pub is_among : List Packed → Packed → Bool
is_among known key = list_any (λ (k : Packed). same_key k key) known

-- of these offers the first with each key that is not known, in their order
abbrev pub first_of_new : List Packed → List Offer → List Offer
first_of_new known [] = []
first_of_new known (offer ∷ offers) =
    if is_among known offer.key then first_of_new known offers else offer ∷ first_of_new (known ++ offer.key ∷ []) offers

-- the offer has the key of an entry of the other side: the sides have met
pub record IsMetBy (entries : List Entry) (id : ℕ) (side : Side) (offer : Offer) (over : Option End) : Type 0 where
  pub other : ℕ
  pub entry : Entry
  pub stands : StandsAt entries other entry
  pub has_key : entry.key ≡ offer.key
  pub other_side : entry.side ≢ side
  pub end : over ≡ Some (Met (Offered id other offer.link))

-- the offer has a new key, and there are as many entries as the budget: the book is spent
pub record IsSpentBy (budget : ℕ) (entries : List Entry) (offer : Offer) (over : Option End) : Type 0 where
  pub new : IsNewKey entries offer.key
  pub full : budget ≤ length entries
  pub end : over ≡ Some (Spent offer.key)

-- no offer ended the book: the entry is settled, and the book is exhausted where now every entry is
pub record IsSettledWhole (entries : List Entry) (id : ℕ) (entry : Entry) (last : List Entry) (over : Option End) : Type 0 where
  pub settled : last ≡ at_stage entries id entry Settled
  pub end : (All (λ (e : Entry). e.stage ≡ Settled) last × (over ≡ Some Exhausted)) ⊎ (HasUnsettled last × (over ≡ None))

-- by the offers from the ending one on: there is none, or the first of them ended the book, and the entry stays in flight
abbrev pub Leaves : ℕ → ℕ → Entry → List Entry → List Offer → List Entry → Option End → Type 0
Leaves budget id entry entries [] last end = IsSettledWhole entries id entry last end
Leaves budget id entry entries (offer ∷ rest) last end =
    (last ≡ entries) × (IsMetBy entries id entry.side offer end ⊎ IsSpentBy budget entries offer end)

-- what the settlement of this entry, of this id, with these offers makes of the book s
pub record IsSettlement (s : State) (worker id : ℕ) (entry : Entry) (offers : List Offer) (t : State) : Type 0 where
  -- the offers before the one that ended the book, and that one with all that follow; where none ended it all of them come before
  pub before : List Offer
  pub rest : List Offer
  pub split : offers ≡ before ++ rest
  -- each offer before has the key of an entry of this side, and is passed over, or a new key: the first with it is admitted, and each later one passed over
  pub passed_or_admitted : All (λ (o : Offer). IsKeyOfSide s.entries entry.side o.key ⊎ IsNewKey s.entries o.key) before
  -- the new entries are the new keys in the order in which they first came
  pub new : List Entry
  pub admitted : new ≡ map (λ (o : Offer). record { key = o.key; side = entry.side; origin = Child id o.link; stage = Unclaimed })
      (first_of_new (keys s.entries) before)
  pub within_budget : length s.entries ≤ s.problem.budget → length (s.entries ++ new) ≤ s.problem.budget
  -- what the offer after them made of the book, or that there was none
  pub leaves : Leaves s.problem.budget id entry (s.entries ++ new) rest t.entries t.end
  pub noted : t.history ≡ s.history ++ Settle worker id ∷ []
  pub problem : t.problem ≡ s.problem
