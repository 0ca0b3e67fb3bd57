-- What a claim and its settlement make of a book.
use Rattle.std.proofs.Common.{◌≡◌, ◌∙◌, ap, ap₂, refl, sym, ℕ, ◌≤◌, [], ◌∷◌, ◌++◌, Bool, true, false, Some, None, arith}
use Rattle.std.proofs.lemmas.List.Elements.{All-contains}
use Rattle.std.proofs.lemmas.Option.{slice_get_within, get_or_from_slice_get}
use Rattle.grid_core.specs.Diagram.{size}
use Rattle.grid_keys.specs.declared.key.Packed.{Packed}
use Rattle.grid_keys.specs.Key.{key_of, size_of, same_key}
use Rattle.grid_keys.proofs.Keys.{size_of_key}
use Rattle.grid_keys.proofs.LeastTranslates.{map_contains}
use Rattle.next_moves.specs.Offers.{Neighbourhood}
use Rattle.search_book.specs.declared.answer.Held.{Held}
use Rattle.search_book.specs.declared.answer.Settled.{Settled}
use Rattle.search_book.specs.declared.answer.Settled.TheVariants.{Done, Late, Stranger}
use Rattle.search_book.specs.declared.answer.Ticket.{Ticket}
use Rattle.search_book.specs.declared.problem.Problem.{Problem}
use Rattle.search_book.specs.declared.entry.Entry.{Entry}
use Rattle.search_book.specs.declared.entry.Stage.TheVariants as stage
use Rattle.search_book.specs.declared.event.Event.TheVariants.{Claim, Settle}
use Rattle.search_book.specs.State.{State}
use Rattle.search_book.specs.Begin.{Begins, opened}
use Rattle.search_book.specs.Claim.{ClaimsEntry}
use Rattle.search_book.specs.Entries.{keys}
use Rattle.search_book.specs.Sound.{IsSound}
use Rattle.search_book.specs.Answers.{AnswersSettle, IsTicket, IsDone, held_at, held_entry, asked_by}
use Rattle.search_book.proofs.Restaged.{set_stands}
use Rattle.search_book.proofs.Recorded.{settled_history, settled_problem}

-- a settlement of what is in flight, as it is asked, is neither late nor a stranger's
pub is_done : (s t : State) (worker id : ℕ) (offers : Neighbourhood) (answer : Settled) → s.end ≡ None
    → held_at s id ≡ Some (asked_by worker offers) → AnswersSettle s worker id offers answer t → answer ≡ Done
is_done s t worker id offers Done not_over held answers = refl
is_done s t worker id offers Late not_over held answers = absurd (answers.0 not_over)
is_done s t worker id offers (Stranger asked kept) not_over held answers =
    absurd (answers.differ (answers.is_held ∙ held ∙ ap (λ (h : Held). Some h) (sym answers.is_asked)))

module _ (s t : State) (worker : ℕ) (ticket : Ticket) (offers : Neighbourhood) (claims : ClaimsEntry s worker ticket.id t)
    (is_ticket : IsTicket s ticket) (origin : offers.origin ≡ key_of ticket.form.grid) (cap : offers.cap ≡ s.problem.cap) where
  -- the entry of the ticket is in flight for the worker, with the key of the offers
  pub held_now : held_at t ticket.id ≡ Some (asked_by worker offers)
  held_now =
      let both : Some is_ticket.entry ≡ Some claims.entry = sym is_ticket.stands ∙ claims.next.stands in
      let one : is_ticket.entry ≡ claims.entry = cc in
      let f : Entry = record claims.entry { stage = stage.InFlight worker } in
      let key : claims.entry.key ≡ offers.origin = ap (λ (e : Entry). e.key) (sym one) ∙ sym is_ticket.form.named ∙ sym origin in
      ap (λ (v : State). held_at v ticket.id) claims.after
      ∙ ap (held_entry s.problem.cap) (set_stands s.entries ticket.id claims.entry f claims.next.stands)
      ∙ ap₂ (λ (k : Packed) (c : ℕ). Some (asked worker k c)) key (sym cap)
    where
      asked : ℕ → Packed → ℕ → Held
      asked worker key cap = record { worker = worker; key = key; cap = cap }

-- a claim and the settlement of what was claimed
module _ (s t u : State) (worker id : ℕ) (offers : Neighbourhood) (claims : ClaimsEntry s worker id t) (done : IsDone t worker id offers u) where
  pub turn_history : u.history ≡ s.history ++ Claim worker ∷ [] ++ Settle worker id ∷ []
  turn_history =
      ap (λ (v : State). v.history) done.after
      ∙ settled_history t worker id done.entry offers.offers
      ∙ ap (λ (v : State). v.history ++ Settle worker id ∷ []) claims.after

  pub turn_problem : u.problem ≡ s.problem
  turn_problem =
      ap (λ (v : State). v.problem) done.after
      ∙ settled_problem t worker id done.entry offers.offers
      ∙ ap (λ (v : State). v.problem) claims.after

-- the diagram of a ticket is within the cap
pub ticket_small : (s : State) (ticket : Ticket) → IsSound s → IsTicket s ticket → size ticket.form.grid ≤ s.problem.cap
ticket_small s ticket sound is =
    let key : size_of is.entry.key ≤ s.problem.cap =
    All-contains (λ (k : Packed). size_of k ≤ s.problem.cap) (keys s.entries) is.entry.key sound.bounds.cap
    (map_contains (λ (e : Entry). e.key) s.entries is.entry
    (ticket.id, slice_get_within s.entries ticket.id is.entry is.stands, get_or_from_slice_get s.entries ticket.id is.entry is.entry is.stands)) in
    omega (arith, key, sym (size_of_key ticket.form.grid is.form.grid) ∙ ap size_of is.form.named)

pub begun_problem : (p : Problem) (s : State) → Begins p s → s.problem ≡ p
begun_problem p s begins = ap (λ (v : State). v.problem) begins.opened ∙ by (same_key (key_of begins.first.grid) (key_of begins.second.grid)) refl
  where
    by : (b : Bool) → same_key (key_of begins.first.grid) (key_of begins.second.grid) ≡ b → (opened p begins.first begins.second).problem ≡ p
    by true is = rw is refl
    by false is = rw is refl

pub begun_history : (p : Problem) (s : State) → Begins p s → s.history ≡ []
begun_history p s begins = ap (λ (v : State). v.history) begins.opened ∙ by (same_key (key_of begins.first.grid) (key_of begins.second.grid)) refl
  where
    by : (b : Bool) → same_key (key_of begins.first.grid) (key_of begins.second.grid) ≡ b → (opened p begins.first begins.second).history ≡ []
    by true is = rw is refl
    by false is = rw is refl
