-- What a worker takes from under the lock, and what it brings back; only private clauses and proofs cite this file.
use Rattle.std.specs.Prelude.{◌≡◌, ◌≢◌, ◌≤◌, ◌+◌, ℕ, None}
use Rattle.grid_core.specs.declared.grid.TheConstants.{MAX_SIZE}
use Rattle.grid_core.specs.Diagram.{size}
use Rattle.grid_keys.specs.CanonicalForm.{IsCanonical}
use Rattle.next_moves.specs.Offers.{Neighbourhood}
use Rattle.search_book.specs.State.{State}
use Rattle.search_book.specs.Claim.{ClaimsEntry}
use Rattle.search_book.specs.declared.answer.Settled.{Settled}
use Rattle.search_book.specs.declared.answer.Settled.TheVariants.{Done, Late, Stranger}
use Rattle.search_book.specs.Answers.{IsAllClaimed, IsTicket, AnswersSettle}
use Rattle.search_pool.specs.declared.locked.Task.{Task}
use Rattle.search_pool.specs.declared.locked.TaskAnswer.{TaskAnswer}
use Rattle.search_pool.specs.declared.locked.TaskAnswer.TheVariants.{Work, Later, Over}

-- the diagram of the task has offers within its cap
pub record AllowsOffers (task : Task) : Type 0 where
  pub canonical : IsCanonical task.form.grid
  pub least : size task.form.grid ≤ task.cap
  pub most : task.cap ≤ MAX_SIZE

-- the task is the entry that the worker claimed in the state s, with its diagram and the cap of the book
pub record IsTaskOf (s : State) (worker : ℕ) (task : Task) (t : State) : Type 0 where
  pub claims : ClaimsEntry s worker task.id t
  pub ticket : IsTicket s (record { id = task.id; form = task.form })
  pub cap : task.cap ≡ s.problem.cap

-- the answer to a worker that asks for a task in the state s, and the state t after it
abbrev pub IsTaskAnswer : State → ℕ → TaskAnswer → State → Type 0
IsTaskAnswer s worker (Work task) t = IsTaskOf s worker task t
IsTaskAnswer s worker Later t = IsAllClaimed s × (t ≡ s)
IsTaskAnswer s worker Over t = (s.end ≢ None) × (t ≡ s)

-- how many settlements a seat counts for this answer
abbrev pub settlements_of : Settled → ℕ
settlements_of Done = 1
settlements_of Late = 0
settlements_of (Stranger asked kept) = 0

-- the book answers a settlement, and the seat counts one more where its offers were taken and none else
pub record Counts (s : State) (worker id : ℕ) (offers : Neighbourhood) (t : State) (before after : ℕ) : Type 0 where
  pub answer : Settled
  pub answers : AnswersSettle s worker id offers answer t
  pub counts : after ≡ before + settlements_of answer
