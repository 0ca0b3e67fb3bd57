-- What one offer comes to; only private clauses and proofs cite this file.
use Rattle.std.specs.Prelude.{ℕ, Option, Some, None}
use Rattle.next_moves.specs.declared.links.Offer.{Offer}
use Rattle.search_book.specs.declared.event.End.{End}
use Rattle.search_book.specs.declared.event.End.TheVariants as end
use Rattle.search_book.specs.declared.event.Meeting.TheVariants.{Offered}
use Rattle.search_book.specs.declared.settle.Outcome.{Outcome}
use Rattle.search_book.specs.declared.settle.Outcome.TheVariants.{GoesOn, Met, Refused}

-- why the book is over where an offer of entry `id` came to this
abbrev pub end_of : ℕ → Offer → Outcome → Option End
end_of id offer GoesOn = None
end_of id offer (Met other) = Some (end.Met (Offered id other offer.link))
end_of id offer Refused = Some (end.Spent offer.key)
