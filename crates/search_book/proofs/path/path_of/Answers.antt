use Rattle.std.proofs.Common.{◌≡◌, ◌<◌, ◌++◌, ◌∷◌, [], length, Some}
use Rattle.std.proofs.lemmas.List.Elements.{All-pop}
use Rattle.search_book.proofs.WaysDown.{way_down_less}
use Rattle.search_book.proofs.path.path_of.Goals as goal

pub loop-ancestor-preserved : goal.loop-ancestor-preserved
loop-ancestor-preserved c =
    let cut : c.loop-ancestor.ids.items ≡ c.pop.new.self.items ++ c.in-Some.ancestor ∷ [] = c.in-Some.ensures.items in
    let both =
    All-pop (λ i. i < length c.args.entries.now.entries) c.loop-ancestor.ids.items c.pop.new.self.items
    (Some c.in-Some.ancestor) cut c.loop-ancestor.invariant.0 in (
      both.0,
      way_down_less c.args.entries.now.entries c.loop-ancestor.ids.items c.pop.new.self.items c.in-Some.ancestor _
          c.loop-ancestor.list.items c.push_origin.new.list.items _ cut c.at.ensures
          c.loop-ancestor.invariant.1 c.in_ok-push_origin.ensures,
    )
