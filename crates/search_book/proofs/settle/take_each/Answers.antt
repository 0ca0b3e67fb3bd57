use Rattle.std.proofs.Common.{◌∙◌, ap, sym, None, Some, refl, arith}
use Rattle.search_book.specs.declared.event.End.{End}
use Rattle.search_book.specs.EntryList.{EntriesIn}
use Rattle.search_book.proofs.Rest.{rest_after}
use Rattle.search_book.proofs.Sizes.{fits_too}
use Rattle.search_book.proofs.Taking.{taken, one_more, ended_here}
use Rattle.search_book.proofs.settle.take_each.Goals as goal

pub returns-in-Met-clause-taken : goal.returns-in-Met-clause-taken
returns-in-Met-clause-taken c =
    ended_here c.args.parent.budget c.args.parent.id c.args.parent.side _ c.args.offers.now c.args.roll.now.entries c.loop-offer.roll.entries
    c.take.new.roll.entries c.loop-offer.offer-index _ c.loop-offer-test.true c.loop-offer.invariant.1
    (c.in-Met.ensures.taken ∙ ap (λ (end : End). taken c.take.new.roll.entries (Some end)) (sym c.met_by.ensures)) refl

pub returns-in-Refused-clause-taken : goal.returns-in-Refused-clause-taken
returns-in-Refused-clause-taken c =
    ended_here c.args.parent.budget c.args.parent.id c.args.parent.side _ c.args.offers.now c.args.roll.now.entries c.loop-offer.roll.entries
    c.take.new.roll.entries c.loop-offer.offer-index _ c.loop-offer-test.true c.loop-offer.invariant.1 c.in-Refused.ensures.taken refl

pub loop-offer-preserved : goal.loop-offer-preserved
loop-offer-preserved c = (
  rest_after c.args.roll.now c.loop-offer.roll c.take.new.roll c.loop-offer.invariant.0 c.in-GoesOn.ensures.rest,
  one_more c.args.parent.budget c.args.parent.id c.args.parent.side _ c.args.offers.now c.args.roll.now.entries c.loop-offer.roll.entries
      c.take.new.roll.entries c.loop-offer.offer-index None c.loop-offer-test.true c.loop-offer.invariant.1 c.in-GoesOn.ensures.taken,
)

pub take-requires-clause-room : goal.take-requires-clause-room
take-requires-clause-room c = omega (arith, c.requires.room, ap (λ (k : EntriesIn). k.room) c.loop-offer.invariant.0)

pub take-requires-clause-fits : goal.take-requires-clause-fits
take-requires-clause-fits c =
    fits_too c.args.roll.now.columns c.loop-offer.roll.columns _ (ap (λ (k : EntriesIn). k.columns) c.loop-offer.invariant.0)
    (c.requires.fit c.loop-offer.offer-index _ c.loop-offer-test.true)

pub returns-in-Met-clause-rest : goal.returns-in-Met-clause-rest
returns-in-Met-clause-rest c = rest_after c.args.roll.now c.loop-offer.roll c.take.new.roll c.loop-offer.invariant.0 c.in-Met.ensures.rest

pub returns-in-Refused-clause-rest : goal.returns-in-Refused-clause-rest
returns-in-Refused-clause-rest c = rest_after c.args.roll.now c.loop-offer.roll c.take.new.roll c.loop-offer.invariant.0 c.in-Refused.ensures.rest

pub returns-clause-rest : goal.returns-clause-rest
returns-clause-rest c = c.loop-offer.invariant.0
