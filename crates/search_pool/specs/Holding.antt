-- What one call of a worker makes of the book while it holds the lock; only private clauses and proofs cite this file.
use Rattle.std.specs.Prelude.{◌≡◌, ◌⊎◌, ℕ}
use Rattle.search_book.specs.declared.event.Event.{Event}
use Rattle.search_book.specs.declared.event.Event.TheVariants.{Claim, Settle}
use Rattle.search_book.specs.State.{State}
use Rattle.search_book.specs.Machine.{After}

-- the worker whose claim or settlement it is
abbrev pub worker_of : Event → ℕ
worker_of (Claim worker) = worker
worker_of (Settle worker id) = worker

-- one event of this worker leads from s to t
pub record IsEventOf (worker : ℕ) (s t : State) : Type 0 where
  pub event : Event
  pub of_worker : worker_of event ≡ worker
  pub after : After s event t

-- the book is as it was, or one event of this worker happened to it
abbrev pub IsHolding : ℕ → State → State → Type 0
IsHolding worker s t = (t ≡ s) ⊎ IsEventOf worker s t
