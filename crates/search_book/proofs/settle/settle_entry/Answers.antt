use Rattle.std.proofs.Common.{◌≡◌, ◌∙◌, ap, sym, List, Some, slice_get}
use Rattle.search_book.specs.declared.entry.Entry.{Entry}
use Rattle.search_book.proofs.Rest.{rest_after}
use Rattle.search_book.proofs.Standing.{inside_after, flies_after, settled_after}
use Rattle.search_book.proofs.Taking.{none_of}
use Rattle.search_book.proofs.settle.settle_entry.Goals as goal

pub settle_whole-requires-clause-inside : goal.settle_whole-requires-clause-inside
settle_whole-requires-clause-inside c =
    inside_after c.args.budget c.args.id _ c.args.offers.now c.args.roll.now.entries c.take_all-end.new.roll.entries c.take_all-end.result
    c.take_all-end.ensures.taken c.args.id c.requires.inside

pub settle_whole-requires-clause-in_flight : goal.settle_whole-requires-clause-in_flight
settle_whole-requires-clause-in_flight c =
    flies_after c.args.budget c.args.id _ c.args.offers.now c.args.roll.now.entries c.take_all-end.new.roll.entries c.take_all-end.result
    c.take_all-end.ensures.taken c.args.id c.requires.inside c.requires.in_flight

pub returns-clause-settled : goal.returns-clause-settled
returns-clause-settled c = λ e stands.
    let there : slice_get c.entries.result.now.entries c.args.id ≡ Some e = ap (λ (es : List Entry). slice_get es c.args.id) c.entries.ensures ∙ stands in
    let both : Some c.at-side.result ≡ Some e = sym c.at-side.ensures ∙ there in
    let same : c.at-side.result ≡ e = cc in
    let of_side : c.at-side.result.side ≡ e.side = ap (λ (f : Entry). f.side) same in
    settled_after c.args.budget c.args.id _ c.args.offers.now c.args.roll.now.entries c.take_all-end.new.roll.entries c.take_all-end.result
    c.take_all-end.ensures.taken e c.settle_whole.new.roll.entries c.settle_whole.result of_side
    (none_of c.take_all-end.result (sym c.is_some.ensures ∙ c.if-is_some.false)) stands c.settle_whole.ensures.settled

pub returns-clause-rest : goal.returns-clause-rest
returns-clause-rest c =
    rest_after c.args.roll.now c.take_all-end.new.roll c.settle_whole.new.roll c.take_all-end.ensures.rest c.settle_whole.ensures.rest
