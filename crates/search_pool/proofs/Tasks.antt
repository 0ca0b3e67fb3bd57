-- What lies under the lock before and after a claim or a settlement.
use Rattle.std.proofs.Common.{◌≡◌, ◌≢◌, ap₂, sym, subst, refl, ℕ, ◌<◌, ◌≤◌, ◌+◌, ◌-◌, ◌^◌, arith, None}
use Rattle.grid_core.specs.declared.grid.TheConstants.{MAX_SIZE}
use Rattle.grid_core.specs.Diagram.{size}
use Rattle.grid_keys.specs.declared.least_form.LeastForm.{LeastForm}
use Rattle.next_moves.specs.Offers.{Neighbourhood}
use Rattle.search_book.specs.declared.answer.Ticket.{Ticket}
use Rattle.search_book.specs.declared.answer.Settled.{Settled}
use Rattle.search_book.specs.declared.answer.Settled.TheVariants.{Done, Late, Stranger}
use Rattle.search_book.specs.State.{State}
use Rattle.search_book.specs.Sound.{IsSound}
use Rattle.search_book.specs.Claim.{ClaimsEntry}
use Rattle.search_book.specs.Answers.{AnswersSettle, IsTicket}
use Rattle.search_book.proofs.Histories.{as_many_events}
use Rattle.search_book.proofs.Recorded.{done_adds_one, settle_when_over}
use Rattle.search_pool.specs.declared.locked.Task.{Task}
use Rattle.search_book.specs.Events.{settlements}
use Rattle.search_pool.specs.Task.{AllowsOffers, IsTaskOf, Counts}
use Rattle.search_pool.proofs.Settling.{ticket_small}

-- a task with the entry and the diagram of a ticket and the cap of the book is the entry that was claimed
pub task_of_ticket : (s t : State) (worker : ℕ) (ticket : Ticket) (task : Task) → task.id ≡ ticket.id → task.form ≡ ticket.form
    → task.cap ≡ s.problem.cap → ClaimsEntry s worker ticket.id t → IsTicket s ticket → IsTaskOf s worker task t
task_of_ticket s t worker ticket task id form cap claims names =
    let at : ℕ → LeastForm → Ticket = λ i f. record { id = i; form = f } in
    record {
      claims = subst (λ (i : ℕ). ClaimsEntry s worker i t) (sym id) claims;
      ticket = subst (λ (k : Ticket). IsTicket s k) (ap₂ at (sym id) (sym form)) names;
      cap = cap;
    }

-- what is handed out has offers within the cap of its book
pub allows_offers : (s t : State) (worker : ℕ) (task : Task) → IsSound s → IsTaskOf s worker task t → AllowsOffers task
allows_offers s t worker task sound is =
    let small : size task.form.grid ≤ s.problem.cap = ticket_small s (record { id = task.id; form = task.form }) sound is.ticket in
    let least : size task.form.grid ≤ task.cap = subst (λ (k : ℕ). size task.form.grid ≤ k) (sym is.cap) small in
    let most : task.cap ≤ MAX_SIZE = subst (λ (k : ℕ). k ≤ MAX_SIZE) (sym is.cap) sound.problem.bounded.cap in
    record { canonical = is.ticket.form.canonical; least = least; most = most }

-- a sound book has far fewer settlements than a counter can count
pub few_settlements : (s : State) → IsSound s → settlements s.history < 2 ^ 64 - 1
few_settlements s sound =
    omega (arith, as_many_events s.history, sound.events.most, sound.bounds.budget, sound.problem.bounded.most)

-- taken offers are one settlement more
pub one_more_where_done : (s t : State) (worker id : ℕ) (offers : Neighbourhood) (answer : Settled)
    → answer ≡ Done → AnswersSettle s worker id offers answer t → settlements t.history ≡ settlements s.history + 1
one_more_where_done s t worker id offers answer same is =
    done_adds_one s t worker id offers (subst (λ (a : Settled). AnswersSettle s worker id offers a t) same is)

-- what is over stays over
pub over_after : (s t : State) (worker id : ℕ) (offers : Neighbourhood) (answer : Settled)
    → AnswersSettle s worker id offers answer t → s.end ≢ None → t.end ≢ None
over_after s t worker id offers answer is over = subst (λ (u : State). u.end ≢ None) (sym (settle_when_over s t worker id offers answer over is)) over

-- the seat counts one more where the offers were taken
pub counts_done : (s t : State) (worker id : ℕ) (offers : Neighbourhood) (answer : Settled) (before after : ℕ)
    → answer ≡ Done → after ≡ before + 1 → AnswersSettle s worker id offers answer t
    → Counts s worker id offers t before after
counts_done s t worker id offers Done before after same more is = record { answer = Done; answers = is; counts = more }
counts_done s t worker id offers Late before after same more is = cc
counts_done s t worker id offers (Stranger asked kept) before after same more is = cc

-- and else nothing happened
pub counts_none : (s t : State) (worker id : ℕ) (offers : Neighbourhood) (answer : Settled) (made : ℕ)
    → answer ≢ Done → AnswersSettle s worker id offers answer t → Counts s worker id offers t made made
counts_none s t worker id offers Done made other is = absurd (other refl)
counts_none s t worker id offers Late made other is = record { answer = Late; answers = is; counts = omega arith }
counts_none s t worker id offers (Stranger asked kept) made other is = record { answer = Stranger asked kept; answers = is; counts = omega arith }
