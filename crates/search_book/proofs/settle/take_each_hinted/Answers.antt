use Rattle.std.proofs.Common.{◌∙◌, ap, sym, arith}
use Rattle.search_book.specs.EntryList.{EntriesIn}
use Rattle.search_book.proofs.Rest.{rest_after}
use Rattle.search_book.proofs.Sizes.{fits_too}
use Rattle.search_book.proofs.Taking.{none_of, taken, one_more, ended_here}
use Rattle.search_book.proofs.settle.take_each_hinted.Goals as goal

pub returns-then-is_some-clause-taken : goal.returns-then-is_some-clause-taken
returns-then-is_some-clause-taken c =
    ended_here c.args.parent.budget c.args.parent.id c.args.parent.side _ c.args.offers.now c.args.roll.now.entries c.loop-offer.roll.entries
    c.take_hinted-end.new.roll.entries c.loop-offer.offer-index _ c.loop-offer-test.true c.loop-offer.invariant.1 c.take_hinted-end.ensures.taken
    (sym c.is_some.ensures ∙ c.if-is_some.true)

pub returns-then-is_some-clause-rest : goal.returns-then-is_some-clause-rest
returns-then-is_some-clause-rest c =
    rest_after c.args.roll.now c.loop-offer.roll c.take_hinted-end.new.roll c.loop-offer.invariant.0 c.take_hinted-end.ensures.rest

pub loop-offer-preserved : goal.loop-offer-preserved
loop-offer-preserved c = (
  rest_after c.args.roll.now c.loop-offer.roll c.take_hinted-end.new.roll c.loop-offer.invariant.0 c.take_hinted-end.ensures.rest,
  one_more c.args.parent.budget c.args.parent.id c.args.parent.side _ c.args.offers.now c.args.roll.now.entries c.loop-offer.roll.entries
      c.take_hinted-end.new.roll.entries c.loop-offer.offer-index c.take_hinted-end.result c.loop-offer-test.true c.loop-offer.invariant.1
      c.take_hinted-end.ensures.taken
      ∙ ap (taken c.take_hinted-end.new.roll.entries) (none_of c.take_hinted-end.result (sym c.is_some.ensures ∙ c.if-is_some.false)),
)

pub take_hinted-end-requires-clause-room : goal.take_hinted-end-requires-clause-room
take_hinted-end-requires-clause-room c = omega (arith, c.requires.room, ap (λ (k : EntriesIn). k.room) c.loop-offer.invariant.0)

pub take_hinted-end-requires-clause-fits : goal.take_hinted-end-requires-clause-fits
take_hinted-end-requires-clause-fits c =
    fits_too c.args.roll.now.columns c.loop-offer.roll.columns _ (ap (λ (k : EntriesIn). k.columns) c.loop-offer.invariant.0)
    (c.requires.fit c.loop-offer.offer-index _ c.loop-offer-test.true)

pub returns-clause-rest : goal.returns-clause-rest
returns-clause-rest c = c.loop-offer.invariant.0
