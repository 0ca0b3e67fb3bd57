use Rattle.std.proofs.Common.{◌≡◌, ◌≢◌, ◌<◌, ◌∙◌, sym, subst, ℕ, List, length, vec_capacity, None, Some, IfNone, All, slice_get}
use Rattle.std.specs.Map.{lookup}
use Rattle.std.proofs.lemmas.List.{length-map}
use Rattle.grid_keys.specs.Key.{same_key}
use Rattle.search_book.specs.declared.entry.Entry.{Entry}
use Rattle.search_book.specs.Entries.{keys, sides}
use Rattle.search_book.specs.Index.{Indexed, IsIndexOf}
use Rattle.search_book.proofs.Indexes.{place_of_pair, side_of_pair, spilled_inside, spilled_known, spilled_none, known_by_place}
use Rattle.search_book.proofs.index.Index.find.Goals as goal

pub spilled_entry-requires : goal.spilled_entry-requires
spilled_entry-requires c =
    let old : Indexed = record { room = vec_capacity c.self.inside.spilled; paired = c.self.inside.by_key; spilled = c.self.inside.spilled.items } in
    let is : IsIndexOf (keys c.args.entries.now.entries) (sides c.args.entries.now.entries) old =
    subst (λ (index : Indexed). IsIndexOf (keys c.args.entries.now.entries) (sides c.args.entries.now.entries) index) (sym c.self.view_is) c.requires in
    subst (λ (ids : List ℕ). All (λ (id : ℕ). id < length c.args.entries.now.entries) ids) (sym c.as_slice.ensures.value)
    (subst (λ (n : ℕ). All (λ (id : ℕ). id < n) c.self.inside.spilled.items)
    (length-map c.args.entries.now.entries (λ (e : Entry). e.key))
    (spilled_inside (keys c.args.entries.now.entries) (sides c.args.entries.now.entries) old is))

pub returns-in-Some-clause-some : goal.returns-in-Some-clause-some
returns-in-Some-clause-some c =
    let old : Indexed = record { room = vec_capacity c.self.inside.spilled; paired = c.self.inside.by_key; spilled = c.self.inside.spilled.items } in
    let is : IsIndexOf (keys c.args.entries.now.entries) (sides c.args.entries.now.entries) old =
    subst (λ (index : Indexed). IsIndexOf (keys c.args.entries.now.entries) (sides c.args.entries.now.entries) index) (sym c.self.view_is) c.requires in
    let found : lookup (same_key c.args.key.now) old.paired ≡ Some c.in-Some.known = sym c.get.ensures ∙ c.in-Some.is in
    known_by_place c.args.entries.now.entries c.args.key.now c.in-Some.known is.differ
    (place_of_pair (keys c.args.entries.now.entries) (sides c.args.entries.now.entries) old is c.args.key.now c.in-Some.known found)
    (side_of_pair (keys c.args.entries.now.entries) (sides c.args.entries.now.entries) old is c.args.key.now c.in-Some.known found)

pub returns-in-None-clause-some : goal.returns-in-None-clause-some
returns-in-None-clause-some c =
    let old : Indexed = record { room = vec_capacity c.self.inside.spilled; paired = c.self.inside.by_key; spilled = c.self.inside.spilled.items } in
    let is : IsIndexOf (keys c.args.entries.now.entries) (sides c.args.entries.now.entries) old =
    subst (λ (index : Indexed). IsIndexOf (keys c.args.entries.now.entries) (sides c.args.entries.now.entries) index) (sym c.self.view_is) c.requires in
    spilled_known c.args.entries.now.entries old c.args.key.now c.spilled_entry.result is c.spilled_entry.ensures.key c.spilled_entry.ensures.side

pub returns-in-None-clause-none : goal.returns-in-None-clause-none
returns-in-None-clause-none c =
    let old : Indexed = record { room = vec_capacity c.self.inside.spilled; paired = c.self.inside.by_key; spilled = c.self.inside.spilled.items } in
    let is : IsIndexOf (keys c.args.entries.now.entries) (sides c.args.entries.now.entries) old =
    subst (λ (index : Indexed). IsIndexOf (keys c.args.entries.now.entries) (sides c.args.entries.now.entries) index) (sym c.self.view_is) c.requires in
    let none : lookup (same_key c.args.key.now) old.paired ≡ None = sym c.get.ensures ∙ c.in-None.is in
    let apart : IfNone c.spilled_entry.result (All (λ (id : ℕ). slice_get (keys c.args.entries.now.entries) id ≢ Some c.args.key.now) old.spilled) =
    subst (λ (ids : List ℕ). IfNone c.spilled_entry.result (All (λ (id : ℕ). slice_get (keys c.args.entries.now.entries) id ≢ Some c.args.key.now) ids))
    c.as_slice.ensures.value c.spilled_entry.ensures.none in
    spilled_none c.args.entries.now.entries old c.args.key.now c.spilled_entry.result is none apart
