use Rattle.std.proofs.Common.{rules, ◌≡◌, subst}
use Rattle.search_book.specs.EntryList.{EntriesIn}
use Rattle.search_book.specs.Index.{IsPassedOver}
use Rattle.search_book.proofs.Passing.{passed_by_pair}
use Rattle.search_book.proofs.roll.Roll.has_at.Goals as goal

pub returns-in-Some : goal.returns-in-Some
returns-in-Some c = λ is.
    let side : c.in-Some.known.side ≡ c.args.side = search (rules, is) in
    subst (λ (k : EntriesIn). IsPassedOver k.entries c.args.side c.args.key.now) c.self.view_is
    (passed_by_pair c.self.inside.entries.entries c.self.inside.index c.args.side c.args.key.now c.in-Some.known c.self.invariant.6 c.in-Some.ensures side)
