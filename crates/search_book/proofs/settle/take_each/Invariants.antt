use Rattle.std.proofs.Common.{◌≡◌, None, take}
use Rattle.search_book.specs.Settle.{taken_all}
use Rattle.search_book.proofs.settle.take_each.Given as goal

-- the offers so far were taken, and none of them ended the book
abbrev pub invariant-loop-offer : goal.invariant-loop-offer
invariant-loop-offer l =
    (l.roll ≡ record l.fn.roll { entries = l.roll.entries })
    × (taken_all l.parent.budget l.parent.id l.parent.side l.fn.roll.entries (take l.offer-index l.offers) ≡ record { entries = l.roll.entries; end = None })
