use Rattle.std.proofs.Common.{◌≡◌, ◌∙◌, ◌+◌, ap, sym, subst, List, None, Some, arith}
use Rattle.std.specs.List.{All}
use Rattle.std.proofs.lemmas.Option.{slice_get_within}
use Rattle.next_moves.specs.declared.links.Offer.{Offer}
use Rattle.next_moves.specs.Offers.{Neighbourhood}
use Rattle.search_book.specs.State.{State}
use Rattle.search_book.specs.Settle.{settled_entries}
use Rattle.search_book.specs.Events.{settlements}
use Rattle.search_book.specs.Answers.{IsDone, asked_by, held_at}
use Rattle.search_book.proofs.Histories.{as_many_events, settlements_more}
use Rattle.search_book.specs.EntryList.{EntriesIn, Fits}
use Rattle.search_book.proofs.Sizes.{offers_fit}
use Rattle.search_book.proofs.AfterSettling.{Flies, flies, flying_one, room_for_one, sound_after, done_after}
use Rattle.search_book.proofs.book.Book.settle_held.Goals as goal

pub settle_entry-self-inside-requires-clause-fit : goal.settle_entry-self-inside-requires-clause-fit
settle_entry-self-inside-requires-clause-fit c =
    let old = c.self.inside in
    let near : Neighbourhood = c.args.offers.now in
    let s : State = record { problem = old.problem; entries = old.roll.entries; history = old.history.items; end = old.end } in
    let asked : held_at s c.args.id ≡ Some (asked_by c.args.worker near) = ap (λ (t : State). held_at t c.args.id) c.self.view_is ∙ c.requires.held in
    let flying : Flies s c.args.worker c.args.id near = flies s c.args.worker c.args.id near asked in
    subst (λ (os : List Offer). All (λ (o : Offer). Fits old.roll.columns o.key) os) (sym c.offers.ensures.offers)
    (offers_fit near old.roll.columns c.offers.ensures.whole (omega (arith, flying.cap, c.self.invariant.4)))

pub settle_entry-self-inside-requires-clause-inside : goal.settle_entry-self-inside-requires-clause-inside
settle_entry-self-inside-requires-clause-inside c =
    let old = c.self.inside in
    let near : Neighbourhood = c.args.offers.now in
    let s : State = record { problem = old.problem; entries = old.roll.entries; history = old.history.items; end = old.end } in
    let asked : held_at s c.args.id ≡ Some (asked_by c.args.worker near) = ap (λ (t : State). held_at t c.args.id) c.self.view_is ∙ c.requires.held in
    let flying : Flies s c.args.worker c.args.id near = flies s c.args.worker c.args.id near asked in
    slice_get_within s.entries c.args.id flying.entry flying.stands

pub settle_entry-self-inside-requires-clause-in_flight : goal.settle_entry-self-inside-requires-clause-in_flight
settle_entry-self-inside-requires-clause-in_flight c =
    let old = c.self.inside in
    let near : Neighbourhood = c.args.offers.now in
    let s : State = record { problem = old.problem; entries = old.roll.entries; history = old.history.items; end = old.end } in
    let asked : held_at s c.args.id ≡ Some (asked_by c.args.worker near) = ap (λ (t : State). held_at t c.args.id) c.self.view_is ∙ c.requires.held in
    let flying : Flies s c.args.worker c.args.id near = flies s c.args.worker c.args.id near asked in
    flying_one s c.args.worker c.args.id near flying

pub overflow_add-self : goal.overflow_add-self
overflow_add-self c =
    let old = c.self.inside in
    let near : Neighbourhood = c.args.offers.now in
    let s : State = record { problem = old.problem; entries = old.roll.entries; history = old.history.items; end = old.end } in
    let asked : held_at s c.args.id ≡ Some (asked_by c.args.worker near) = ap (λ (t : State). held_at t c.args.id) c.self.view_is ∙ c.requires.held in
    let flying : Flies s c.args.worker c.args.id near = flies s c.args.worker c.args.id near asked in
    let not_over : old.end ≡ None = ap (λ (t : State). t.end) c.self.view_is ∙ c.requires.not_over in
    omega (
      arith,
      c.self.invariant.2,
      as_many_events s.history,
      room_for_one s c.args.worker c.args.id near c.self.invariant.3 not_over flying,
      c.self.invariant.3.problem.bounded.most,
    )

pub push_reserved-requires : goal.push_reserved-requires
push_reserved-requires c =
    let old = c.self.inside in
    let near : Neighbourhood = c.args.offers.now in
    let s : State = record { problem = old.problem; entries = old.roll.entries; history = old.history.items; end = old.end } in
    let asked : held_at s c.args.id ≡ Some (asked_by c.args.worker near) = ap (λ (t : State). held_at t c.args.id) c.self.view_is ∙ c.requires.held in
    let flying : Flies s c.args.worker c.args.id near = flies s c.args.worker c.args.id near asked in
    let not_over : old.end ≡ None = ap (λ (t : State). t.end) c.self.view_is ∙ c.requires.not_over in
    omega (arith, room_for_one s c.args.worker c.args.id near c.self.invariant.3 not_over flying, c.self.invariant.1)

pub invariant_of-self : goal.invariant_of-self
invariant_of-self c =
    let old = c.self.inside in
    let near : Neighbourhood = c.args.offers.now in
    let s : State = record { problem = old.problem; entries = old.roll.entries; history = old.history.items; end = old.end } in
    let asked : held_at s c.args.id ≡ Some (asked_by c.args.worker near) = ap (λ (t : State). held_at t c.args.id) c.self.view_is ∙ c.requires.held in
    let flying : Flies s c.args.worker c.args.id near = flies s c.args.worker c.args.id near asked in
    let not_over : old.end ≡ None = ap (λ (t : State). t.end) c.self.view_is ∙ c.requires.not_over in
    let is : settled_entries s.problem.budget c.args.id flying.entry s.entries near.offers
    ≡ record { entries = c.settle_entry-self-inside.new.roll.entries; end = c.settle_entry-self-inside.result } =
    ap (λ (os : List Offer). settled_entries s.problem.budget c.args.id flying.entry s.entries os) (sym c.offers.ensures.offers)
    ∙ c.settle_entry-self-inside.ensures.settled flying.entry flying.stands in
    let one : settlements c.push_reserved.new.self.items ≡ settlements s.history + 1 =
    ap settlements c.push_reserved.ensures.items ∙ settlements_more s.history c.args.worker c.args.id in (
      ap (λ (k : EntriesIn). k.room) c.settle_entry-self-inside.ensures.rest ∙ c.self.invariant.0,
      omega (arith, c.self.invariant.1, c.push_reserved.ensures.capacity),
      omega (arith, c.self.invariant.2, one),
      sound_after s c.args.worker c.args.id near c.self.invariant.3 not_over flying c.offers.ensures.whole
          c.settle_entry-self-inside.new.roll.entries c.settle_entry-self-inside.result c.push_reserved.new.self.items is c.push_reserved.ensures.items,
      ap (λ (k : EntriesIn). k.columns) c.settle_entry-self-inside.ensures.rest ∙ c.self.invariant.4,
    )

pub returns-clause-done : goal.returns-clause-done
returns-clause-done c =
    let old = c.self.inside in
    let near : Neighbourhood = c.args.offers.now in
    let s : State = record { problem = old.problem; entries = old.roll.entries; history = old.history.items; end = old.end } in
    let asked : held_at s c.args.id ≡ Some (asked_by c.args.worker near) = ap (λ (t : State). held_at t c.args.id) c.self.view_is ∙ c.requires.held in
    let flying : Flies s c.args.worker c.args.id near = flies s c.args.worker c.args.id near asked in
    let not_over : old.end ≡ None = ap (λ (t : State). t.end) c.self.view_is ∙ c.requires.not_over in
    let is : settled_entries s.problem.budget c.args.id flying.entry s.entries near.offers
    ≡ record { entries = c.settle_entry-self-inside.new.roll.entries; end = c.settle_entry-self-inside.result } =
    ap (λ (os : List Offer). settled_entries s.problem.budget c.args.id flying.entry s.entries os) (sym c.offers.ensures.offers)
    ∙ c.settle_entry-self-inside.ensures.settled flying.entry flying.stands in
    let done =
    done_after s c.args.worker c.args.id near c.self.invariant.3 not_over flying c.offers.ensures.whole
    c.settle_entry-self-inside.new.roll.entries c.settle_entry-self-inside.result c.push_reserved.new.self.items is c.push_reserved.ensures.items asked in
    subst
    (λ (u : State). IsDone u c.args.worker c.args.id near
    (record s { entries = c.settle_entry-self-inside.new.roll.entries; history = c.push_reserved.new.self.items; end = c.settle_entry-self-inside.result }))
    c.self.view_is done

pub returns-clause-sound : goal.returns-clause-sound
returns-clause-sound c =
    let old = c.self.inside in
    let near : Neighbourhood = c.args.offers.now in
    let s : State = record { problem = old.problem; entries = old.roll.entries; history = old.history.items; end = old.end } in
    let asked : held_at s c.args.id ≡ Some (asked_by c.args.worker near) = ap (λ (t : State). held_at t c.args.id) c.self.view_is ∙ c.requires.held in
    let flying : Flies s c.args.worker c.args.id near = flies s c.args.worker c.args.id near asked in
    let not_over : old.end ≡ None = ap (λ (t : State). t.end) c.self.view_is ∙ c.requires.not_over in
    let is : settled_entries s.problem.budget c.args.id flying.entry s.entries near.offers
    ≡ record { entries = c.settle_entry-self-inside.new.roll.entries; end = c.settle_entry-self-inside.result } =
    ap (λ (os : List Offer). settled_entries s.problem.budget c.args.id flying.entry s.entries os) (sym c.offers.ensures.offers)
    ∙ c.settle_entry-self-inside.ensures.settled flying.entry flying.stands in
    sound_after s c.args.worker c.args.id near c.self.invariant.3 not_over flying c.offers.ensures.whole
    c.settle_entry-self-inside.new.roll.entries c.settle_entry-self-inside.result c.push_reserved.new.self.items is c.push_reserved.ensures.items
