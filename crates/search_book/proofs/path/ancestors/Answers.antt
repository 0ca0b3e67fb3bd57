use Rattle.std.proofs.Common.{◌≡◌, ◌<◌, ◌++◌, ◌∷◌, [], sym, subst, ℕ, List, length, arith, rules}
use Rattle.std.specs.List.{All}
use Rattle.std.proofs.lemmas.List.Elements.{All-push}
use Rattle.search_book.proofs.WaysDown.{down_from_root, down_from_child}
use Rattle.search_book.proofs.path.ancestors.Goals as goal

pub returns-in-Root-clause-down : goal.returns-in-Root-clause-down
returns-in-Root-clause-down c =
    let more : c.push.new.self.items ≡ c.loop-ids.ids.items ++ c.loop-ids.here ∷ [] = search rules in
    down_from_root c.args.entries.now.entries c.args.id c.loop-ids.here c.in-Root.columns c.in-Root.rows _ c.loop-ids.ids.items c.push.new.self.items
    c.requires.order c.at.ensures c.in-Root.is c.loop-ids.invariant.2 more

pub loop-ids-smaller : goal.loop-ids-smaller
loop-ids-smaller c =
    c.requires.order c.loop-ids.here _ c.in-Child.parent c.in-Child.link
    c.at.ensures c.in-Child.is

pub loop-ids-preserved : goal.loop-ids-preserved
loop-ids-preserved c =
    let more : c.push.new.self.items ≡ c.loop-ids.ids.items ++ c.loop-ids.here ∷ [] = search rules in
    let stands = c.at.ensures in
    let lower : c.in-Child.parent < c.loop-ids.here = c.requires.order c.loop-ids.here _ c.in-Child.parent c.in-Child.link stands c.in-Child.is in (
      omega (arith, c.loop-ids.invariant.0),
      subst (λ (is : List ℕ). All (λ i. i < length c.args.entries.now.entries) is) (sym more)
          (All-push (λ i. i < length c.args.entries.now.entries) c.loop-ids.ids.items c.loop-ids.here c.loop-ids.invariant.1 c.loop-ids.invariant.0),
      down_from_child c.args.entries.now.entries c.args.id c.loop-ids.here c.in-Child.parent c.in-Child.link _ c.loop-ids.ids.items c.push.new.self.items
          c.requires.order stands c.in-Child.is c.loop-ids.invariant.2 more,
    )
