use Rattle.std.proofs.Common.{◌≡◌, ◌++◌, ◌∷◌, [], sym, subst, vec_capacity}
use Rattle.search_book.specs.Index.{Indexed, IsIndexOf}
use Rattle.search_book.proofs.Indexes.{paired_more, rearranged, spilled_more}
use Rattle.search_book.proofs.index.Index.add.Goals as goal

-- where the pair was added
pub returns-else-not-insert-clause-index : goal.returns-else-not-insert-clause-index
returns-else-not-insert-clause-index c = λ ks ss is new place beside.
    let old : Indexed = record { room = vec_capacity c.self.inside.spilled; paired = c.self.inside.by_key; spilled = c.self.inside.spilled.items } in
    let was : IsIndexOf ks ss old = subst (λ (index : Indexed). IsIndexOf ks ss index) (sym c.self.view_is) is in
    rearranged (ks ++ c.args.key ∷ []) (ss ++ c.args.known.side ∷ []) old.room (old.paired ++ (c.args.key, c.args.known) ∷ []) c.insert.new.self old.spilled
    (c.insert.ensures.added c.if-not-insert.false) (paired_more ks ss old was c.args.key c.args.known new place beside)

-- where it was refused
pub returns-then-not-insert-clause-index : goal.returns-then-not-insert-clause-index
returns-then-not-insert-clause-index c = λ ks ss is new place beside.
    let old : Indexed = record { room = vec_capacity c.self.inside.spilled; paired = c.self.inside.by_key; spilled = c.self.inside.spilled.items } in
    let was : IsIndexOf ks ss old = subst (λ (index : Indexed). IsIndexOf ks ss index) (sym c.self.view_is) is in
    let pairs : c.insert.new.self ≡ old.paired = c.insert.ensures.refused c.if-not-insert.true in
    let ids : c.push_reserved.new.self.items ≡ old.spilled ++ c.args.known.id ∷ [] = c.push_reserved.ensures.items in
    let room : vec_capacity c.push_reserved.new.self ≡ old.room = c.push_reserved.ensures.capacity in
    let now : record { room = old.room; paired = old.paired; spilled = old.spilled ++ c.args.known.id ∷ [] }
    ≡ record { room = vec_capacity c.push_reserved.new.self; paired = c.insert.new.self; spilled = c.push_reserved.new.self.items } =
    (λ j. record { room = sym room j; paired = sym pairs j; spilled = sym ids j }) in
    subst (λ (index : Indexed). IsIndexOf (ks ++ c.args.key ∷ []) (ss ++ c.args.known.side ∷ []) index) now
    (spilled_more ks ss old was c.args.key c.args.known new place beside)
