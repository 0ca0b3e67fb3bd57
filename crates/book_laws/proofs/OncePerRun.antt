-- In a run no id is claimed twice, and none is settled twice.
use Rattle.std.proofs.Common.{◌≡◌, ◌≢◌, ◌∙◌, ap, refl, sym, subst, ℕ, zero, suc, ◌⊎◌, inl, inr, List, [], ◌∷◌, All, Option, Some, None, arith}
use Rattle.std.specs.List.{AllPairs}
use Rattle.std.proofs.lemmas.List.Elements.{All-nil, All-cons}
use Rattle.search_book.specs.declared.entry.Entry.{Entry}
use Rattle.search_book.specs.declared.entry.Stage.TheVariants.{Unclaimed, InFlight, Settled}
use Rattle.search_book.specs.declared.event.End.{End}
use Rattle.search_book.specs.declared.event.Event.{Event}
use Rattle.search_book.specs.declared.event.Event.TheVariants.{Claim, Settle}
use Rattle.search_book.specs.State.{State}
use Rattle.search_book.specs.Entries.{StandsAt}
use Rattle.search_book.specs.Events.{settled_ids}
use Rattle.search_book.specs.Claim.{ClaimsEntry}
use Rattle.search_book.specs.Settle.{Taken, Settles, settled_unless_over, taken_all}
use Rattle.search_book.specs.Machine.{Runs, claimed_ids}
use Rattle.book_laws.proofs.LaterEntries.{later_after}
use Rattle.search_book.proofs.Recorded.{before_the_end}
use Rattle.search_book.proofs.Restaged.{set_stands}
use Rattle.search_book.proofs.Standing.{Appends, all_append, stands_still}
use Rattle.book_laws.proofs.OneAfter.{entry_once}

abbrev Differ : List ℕ → Type 0
Differ ids = AllPairs (λ (i j : ℕ). i ≢ j) ids

differ_cons : (id : ℕ) (ids : List ℕ) → All (λ (i : ℕ). id ≢ i) ids → Differ ids → Differ (id ∷ ids)
differ_cons id ids first rest zero zero d lt within = absurd (omega (arith, lt))
differ_cons id ids first rest zero (suc j) d lt within = first j d (omega (arith, within))
differ_cons id ids first rest (suc i) zero d lt within = absurd (omega (arith, lt))
differ_cons id ids first rest (suc i) (suc j) d lt within = rest i j d (omega (arith, lt)) (omega (arith, within))

-- what is claimed is not claimed again
not_again : (events : List Event) (s t : State) (run : Runs s events t) (id : ℕ) (e : Entry)
    → StandsAt s.entries id e → e.stage ≢ Unclaimed → All (λ (i : ℕ). id ≢ i) (claimed_ids s events t run)
not_again [] s t run id e stands was = All-nil (λ (i : ℕ). id ≢ i)
not_again (Claim worker ∷ events) s t (u, (claim, run)) id e stands was =
    let later = later_after s u (Claim worker) id e claim stands in
    let other : id ≢ claim.0 = λ same. was (ap (λ (f : Entry). f.stage) (entry_once s.entries id claim.0 e claim.1.entry same stands claim.1.next.stands)
    ∙ claim.1.next.unclaimed) in
    All-cons (λ (i : ℕ). id ≢ i) claim.0 (claimed_ids u events t run) other (not_again events u t run id later.0 later.1.0 (later.1.1.claimed was))
not_again (Settle worker settled ∷ events) s t (u, (settlement, run)) id e stands was =
    let later = later_after s u (Settle worker settled) id e settlement stands in
    not_again events u t run id later.0 later.1.0 (later.1.1.claimed was)

claimed_now : (s t : State) (worker id : ℕ) (claim : ClaimsEntry s worker id t) → StandsAt t.entries id (record claim.entry { stage = InFlight worker })
claimed_now s t worker id claim =
    let flying : Entry = record claim.entry { stage = InFlight worker } in
    subst (λ (u : State). StandsAt u.entries id flying) (sym claim.after) (set_stands s.entries id claim.entry flying claim.next.stands)

pub claims_differ : (events : List Event) (s t : State) (run : Runs s events t) → Differ (claimed_ids s events t run)
claims_differ [] s t run = λ i j d lt within. absurd (omega (arith, within))
claims_differ (Claim worker ∷ events) s t (u, (claim, run)) =
    differ_cons claim.0 (claimed_ids u events t run)
    (not_again events u t run claim.0 (record claim.1.entry { stage = InFlight worker }) (claimed_now s u worker claim.0 claim.1) (λ is. cc))
    (claims_differ events u t run)
claims_differ (Settle worker id ∷ events) s t (u, (settlement, run)) = claims_differ events u t run

-- the entry is settled, or the book is over
abbrev IsDoneWith : State → ℕ → Type 0
IsDoneWith s id = ((e : Entry) × (StandsAt s.entries id e × (e.stage ≡ Settled))) ⊎ (s.end ≢ None)

no_more : (events : List Event) (s t : State) (id : ℕ) → Runs s events t → IsDoneWith s id → All (λ (i : ℕ). id ≢ i) (settled_ids events)
no_more [] s t id run done = All-nil (λ (i : ℕ). id ≢ i)
no_more (event ∷ events) s t id (u, (after, run)) (inr over) = absurd (over (before_the_end s u event after))
no_more (Claim worker ∷ events) s t id (u, (claim, run)) (inl (e, (stands, settled))) =
    let later = later_after s u (Claim worker) id e claim stands in
    no_more events u t id run (inl (later.0, (later.1.0, later.1.1.settled settled)))
no_more (Settle worker other ∷ events) s t id (u, (settlement, run)) (inl (e, (stands, settled))) =
    let later = later_after s u (Settle worker other) id e settlement stands in
    let differ : id ≢ other = λ same.
    let stages : Settled ≡ InFlight worker =
    sym settled ∙ ap (λ (f : Entry). f.stage) (entry_once s.entries id other e settlement.entry same stands settlement.stands) ∙ settlement.in_flight in cc in
    All-cons (λ (i : ℕ). id ≢ i) other (settled_ids events) differ (no_more events u t id run (inl (later.0, (later.1.0, later.1.1.settled settled))))

done_by : (t : Taken) (id : ℕ) (e : Entry) (o : Option End)
    → StandsAt t.entries id e → t.end ≡ o
    → ((f : Entry) × (StandsAt (settled_unless_over id e t o).entries id f × (f.stage ≡ Settled))) ⊎ ((settled_unless_over id e t o).end ≢ None)
done_by t id e None stands is = inl (record e { stage = Settled }, (set_stands t.entries id e (record e { stage = Settled }) stands, refl))
done_by t id e (Some end) stands is = inr (λ none. let no : Some end ≡ None = sym is ∙ none in cc)

settled_now : (s t : State) (worker id : ℕ) → Settles s worker id t → IsDoneWith t id
settled_now s t worker id is =
    let all : Taken = taken_all s.problem.budget id is.entry.side s.entries is.offers in
    let grown : Appends s.entries all.entries = all_append s.problem.budget id is.entry.side is.offers (record { entries = s.entries; end = None }) in
    subst (λ (u : State). IsDoneWith u id) (sym is.after)
    (done_by all id is.entry all.end (stands_still s.entries all.entries id is.entry grown is.stands) refl)

pub settlements_differ : (events : List Event) (s t : State) → Runs s events t → Differ (settled_ids events)
settlements_differ [] s t run = λ i j d lt within. absurd (omega (arith, within))
settlements_differ (Claim worker ∷ events) s t (u, (claim, run)) = settlements_differ events u t run
settlements_differ (Settle worker id ∷ events) s t (u, (settlement, run)) =
    differ_cons id (settled_ids events) (no_more events u t id run (settled_now s u worker id settlement)) (settlements_differ events u t run)
