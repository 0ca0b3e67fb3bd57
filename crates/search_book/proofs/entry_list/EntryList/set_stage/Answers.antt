use Rattle.std.proofs.Common.{◌≡◌, ◌∙◌, ap, sym, subst, List, Bool, true, false, if◌then◌else◌, map, slice_set}
use Rattle.search_book.specs.declared.entry.Entry.{Entry}
use Rattle.search_book.specs.Entries.{StandsAt, at_stage}
use Rattle.search_book.specs.EntryList.{EntriesIn, whole_entry, are_brief}
use Rattle.search_book.proofs.EntryLists.{brief_restaged, whole_restaged}
use Rattle.search_book.proofs.entry_list.EntryList.set_stage.Goals as goal

pub returns-then-are_brief : goal.returns-then-are_brief
returns-then-are_brief c = λ e at.
    let few : are_brief c.self.inside.columns ≡ true = sym c.are_brief.ensures ∙ c.if-are_brief.true in
    let brief = c.self.inside.brief.items in
    let whole = c.self.inside.whole.items in
    let new = slice_set brief c.args.id (record c.index_mut.result.now { stage = c.args.stage }) in
    let now : map whole_entry brief ≡ c.args.self.now.entries =
    sym (ap (λ (t : Bool). if t then map whole_entry brief else whole) few) ∙ ap (λ (k : EntriesIn). k.entries) c.self.view_is in
    let stands : StandsAt (map whole_entry brief) c.args.id e = subst (λ (es : List Entry). StandsAt es c.args.id e) (sym now) at in
    let after : (if are_brief c.self.inside.columns then map whole_entry new else whole) ≡ at_stage c.args.self.now.entries c.args.id e c.args.stage =
    ap (λ (t : Bool). if t then map whole_entry new else whole) few
    ∙ brief_restaged brief c.args.id c.index_mut.result.now _ e c.args.stage stands c.index_mut.ensures.value
    ∙ ap (λ (es : List Entry). at_stage es c.args.id e c.args.stage) now in
    λ j. record { columns = (c.self.view_is j).columns; room = (c.self.view_is j).room; entries = after j }

pub returns-else-are_brief : goal.returns-else-are_brief
returns-else-are_brief c = λ e at.
    let many : are_brief c.self.inside.columns ≡ false = sym c.are_brief.ensures ∙ c.if-are_brief.false in
    let brief = c.self.inside.brief.items in
    let whole = c.self.inside.whole.items in
    let new = slice_set whole c.args.id (record c.index_mut-else-are_brief.result.now { stage = c.args.stage }) in
    let now : whole ≡ c.args.self.now.entries =
    sym (ap (λ (t : Bool). if t then map whole_entry brief else whole) many) ∙ ap (λ (k : EntriesIn). k.entries) c.self.view_is in
    let stands : StandsAt whole c.args.id e = subst (λ (es : List Entry). StandsAt es c.args.id e) (sym now) at in
    let after : (if are_brief c.self.inside.columns then map whole_entry brief else new) ≡ at_stage c.args.self.now.entries c.args.id e c.args.stage =
    ap (λ (t : Bool). if t then map whole_entry brief else new) many
    ∙ whole_restaged whole c.args.id c.index_mut-else-are_brief.result.now _ e c.args.stage stands c.index_mut-else-are_brief.ensures.value
    ∙ ap (λ (es : List Entry). at_stage es c.args.id e c.args.stage) now in
    λ j. record { columns = (c.self.view_is j).columns; room = (c.self.view_is j).room; entries = after j }
