use Rattle.std.proofs.Common.{◌≡◌, ◌∙◌, sym, subst, true}
use Rattle.search_book.specs.EntryList.{EntriesIn, Fits, are_brief}
use Rattle.search_book.proofs.Sizes.{brief_key}
use Rattle.search_book.proofs.entry_list.EntryList.push.Goals as goal

-- each key here has a brief form
pub returns-in-None : goal.returns-in-None
returns-in-None c =
    let few : are_brief c.self.inside.columns ≡ true = sym c.are_brief.ensures ∙ c.if-are_brief.true in
    let fits : Fits c.self.inside.columns c.args.entry.key = subst (λ (k : EntriesIn). Fits k.columns c.args.entry.key) (sym c.self.view_is) c.requires.key in
    let brief = brief_key c.self.inside.columns c.args.entry.key fits few in
    absurd (c.in-None.ensures.none brief.0 brief.1)
