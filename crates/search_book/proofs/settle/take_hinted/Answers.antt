use Rattle.std.proofs.Common.{◌∙◌, ap, sym, List}
use Rattle.next_moves.specs.declared.links.Offer.{Offer}
use Rattle.search_book.specs.Settle.{taken_all}
use Rattle.search_book.proofs.Passing.{passed_one}
use Rattle.search_book.proofs.settle.take_hinted.Goals as goal

pub returns-then-is_hinted-clause-taken : goal.returns-then-is_hinted-clause-taken
returns-then-is_hinted-clause-taken c =
    passed_one c.args.parent.budget c.args.parent.id c.args.parent.side c.args.roll.now.entries c.args.offer.now (c.is_hinted.ensures c.if-is_hinted.true)

pub returns-else-is_hinted-clause-taken : goal.returns-else-is_hinted-clause-taken
returns-else-is_hinted-clause-taken c =
    ap (λ (os : List Offer). taken_all c.args.parent.budget c.args.parent.id c.args.parent.side c.args.roll.now.entries os) (sym c.from_ref.ensures.value)
    ∙ c.take_each.ensures.taken
