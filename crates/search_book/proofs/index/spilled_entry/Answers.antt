use Rattle.std.proofs.Common.{◌≢◌, ◌∙◌, ap, sym, subst, ℕ, List, Some, All, get_or, slice_get}
use Rattle.std.proofs.lemmas.List.{take_all}
use Rattle.std.proofs.lemmas.List.Elements.{All-more}
use Rattle.search_book.specs.Entries.{keys}
use Rattle.grid_keys.proofs.Keys.{same_key_true}
use Rattle.search_book.proofs.Indexes.{other_key, own_key, own_side}
use Rattle.search_book.proofs.index.spilled_entry.Goals as goal

pub loop-id-preserved : goal.loop-id-preserved
loop-id-preserved c =
    let id : ℕ = get_or c.args.ids.now c.loop-id.id-index 0 in
    All-more
    (λ (i : ℕ). slice_get (keys c.args.entries.now.entries) i ≢ Some c.args.key.now) c.args.ids.now c.loop-id.id-index 0 c.loop-id-test.true c.loop-id.invariant
    (other_key c.args.entries.now.entries id c.at-entry.result c.args.key.now c.at-entry.ensures (sym c.eq.ensures ∙ c.if-eq.false))

pub returns-clause-none : goal.returns-clause-none
returns-clause-none c =
    subst (λ (ids : List ℕ). All (λ (i : ℕ). slice_get (keys c.args.entries.now.entries) i ≢ Some c.args.key.now) ids)
    (take_all c.loop-id.id-index c.args.ids.now c.loop-id-test.false) c.loop-id.invariant

pub returns-then-eq-clause-key : goal.returns-then-eq-clause-key
returns-then-eq-clause-key c =
    own_key c.args.entries.now.entries (get_or c.args.ids.now c.loop-id.id-index 0) c.at-entry.result c.at-entry.ensures
    ∙ ap Some (same_key_true c.at-entry.result.key c.args.key.now (sym c.eq.ensures ∙ c.if-eq.true))

pub returns-then-eq-clause-side : goal.returns-then-eq-clause-side
returns-then-eq-clause-side c = own_side c.args.entries.now.entries (get_or c.args.ids.now c.loop-id.id-index 0) c.at-entry.result c.at-entry.ensures
