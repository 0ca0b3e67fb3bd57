-- What an event leaves of each entry: its key, side and origin, and no earlier stage.
use Rattle.std.proofs.Common.{◌≡◌, ◌∙◌, refl, sym, subst, ℕ, zero, suc, ◌⊎◌, inl, inr, List, [], ◌∷◌, Option, Some, None, slice_set}
use Rattle.search_book.specs.Entries.{StandsAt}
use Rattle.search_book.specs.declared.entry.Entry.{Entry}
use Rattle.search_book.specs.declared.entry.Stage.TheVariants.{Unclaimed, InFlight, Settled}
use Rattle.search_book.specs.declared.event.End.{End}
use Rattle.search_book.specs.declared.event.Event.{Event}
use Rattle.search_book.specs.declared.event.Event.TheVariants.{Claim, Settle}
use Rattle.search_book.specs.State.{State}
use Rattle.search_book.specs.Settle.{Taken, settled_unless_over, taken_all}
use Rattle.search_book.specs.Machine.{After}
use Rattle.search_book.specs.Sound.{IsLater}
use Rattle.search_book.proofs.Standing.{Appends, all_append, stands_still}

-- the entry that stands there is a later one of e
abbrev pub HasLater : List Entry → ℕ → Entry → Type 0
HasLater entries id e = (f : Entry) × (StandsAt entries id f × IsLater e f)

later_itself : (e : Entry) → IsLater e e
later_itself e = record { key = refl; side = refl; origin = refl; claimed = λ was. was; settled = λ was. was }

later_in_flight : (e : Entry) (worker : ℕ) → e.stage ≡ Unclaimed → IsLater e (record e { stage = InFlight worker })
later_in_flight e worker waits = record {
  key = refl;
  side = refl;
  origin = refl;
  claimed = λ was. absurd (was waits);
  settled = λ was. let no : Unclaimed ≡ Settled = sym waits ∙ was in cc;
}

later_settled : (e : Entry) → IsLater e (record e { stage = Settled })
later_settled e = record { key = refl; side = refl; origin = refl; claimed = λ was is. cc; settled = λ was. refl }

-- one entry is set, and the others stay
set_or_stays : (es : List Entry) (id : ℕ) (e g : Entry) (i : ℕ) (f : Entry)
    → StandsAt es id e → StandsAt es i f
    → ((e ≡ f) × (StandsAt (slice_set es id g) i g)) ⊎ (StandsAt (slice_set es id g) i f)
set_or_stays [] id e g i f at stands = cc
set_or_stays (h ∷ es) zero e g zero f at stands = inl (cc, refl)
set_or_stays (h ∷ es) zero e g (suc i) f at stands = inr stands
set_or_stays (h ∷ es) (suc id) e g zero f at stands = inr stands
set_or_stays (h ∷ es) (suc id) e g (suc i) f at stands = set_or_stays es id e g i f at stands

later_set : (es : List Entry) (id : ℕ) (e g : Entry) (i : ℕ) (f : Entry)
    → StandsAt es id e → IsLater e g → StandsAt es i f → HasLater (slice_set es id g) i f
later_set es id e g i f at later stands = elim (set_or_stays es id e g i f at stands) [
  | inl here ↦ (g, (here.1, subst (λ (h : Entry). IsLater h g) here.0 later))
  | inr other ↦ (f, (other, later_itself f))
]

later_whole : (t : Taken) (id : ℕ) (e : Entry) (end : Option End) (i : ℕ) (f : Entry)
    → StandsAt t.entries id e → StandsAt t.entries i f
    → HasLater (settled_unless_over id e t end).entries i f
later_whole t id e None i f at stands = later_set t.entries id e (record e { stage = Settled }) i f at (later_settled e) stands
later_whole t id e (Some end) i f at stands = (f, (stands, later_itself f))

pub later_after : (s t : State) (event : Event) (i : ℕ) (f : Entry) → After s event t → StandsAt s.entries i f → HasLater t.entries i f
later_after s t (Claim worker) i f (id, is) stands =
    subst (λ (u : State). HasLater u.entries i f) (sym is.after)
    (later_set s.entries id is.entry (record is.entry { stage = InFlight worker }) i f is.next.stands
    (later_in_flight is.entry worker is.next.unclaimed) stands)
later_after s t (Settle worker id) i f is stands =
    let u : Taken = taken_all s.problem.budget id is.entry.side s.entries is.offers in
    let grown : Appends s.entries u.entries = all_append s.problem.budget id is.entry.side is.offers (record { entries = s.entries; end = None }) in
    subst (λ (w : State). HasLater w.entries i f) (sym is.after)
    (later_whole u id is.entry u.end i f (stands_still s.entries u.entries id is.entry grown is.stands) (stands_still s.entries u.entries i f grown stands))
