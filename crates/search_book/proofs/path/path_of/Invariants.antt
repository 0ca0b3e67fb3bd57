use Rattle.std.proofs.Common.{◌≡◌, ◌<◌, ◌++◌, length, vec_len}
use Rattle.std.specs.List.{All}
use Rattle.search_book.specs.Path.{path}
use Rattle.search_book.specs.JoiningWays.{way_down}
use Rattle.search_book.proofs.path.path_of.Given as goal

abbrev pub invariant-loop-ancestor : goal.invariant-loop-ancestor
invariant-loop-ancestor l =
    All (λ i. i < length l.entries.entries) l.ids.items × (l.list.items ++ way_down l.entries.entries l.ids.items ≡ path l.entries.entries l.id)

abbrev pub decreases-loop-ancestor : goal.decreases-loop-ancestor
decreases-loop-ancestor l = vec_len l.ids
