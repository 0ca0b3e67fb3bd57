use Rattle.std.proofs.Common.{◌∙◌, ap}
use Rattle.search_book.specs.Outcome.{end_of}
use Rattle.search_book.specs.Settle.{taken_by}
use Rattle.search_book.proofs.Taking.{taken_known}
use Rattle.search_book.proofs.settle.take.Goals as goal

pub returns-in-Some-clause-taken : goal.returns-in-Some-clause-taken
returns-in-Some-clause-taken c =
    taken_known c.args.parent.budget c.args.parent.id c.args.parent.side c.args.roll.now.entries c.args.offer.now c.in-Some.known
    (end_of c.args.parent.id c.args.offer.now c.met_or_passed_over.result) c.in-Some.ensures.some
    (c.met_or_passed_over.ensures c.args.parent.id c.args.offer.now)

pub returns-in-None-clause-taken : goal.returns-in-None-clause-taken
returns-in-None-clause-taken c =
    ap (taken_by c.args.parent.budget c.args.parent.id c.args.parent.side c.args.roll.now.entries c.args.offer.now) c.in-None.ensures.none
    ∙ c.admit_or_refuse.ensures.taken
