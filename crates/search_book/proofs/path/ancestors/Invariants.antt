use Rattle.std.proofs.Common.{◌≡◌, ◌<◌, ◌++◌, length}
use Rattle.std.specs.List.{All}
use Rattle.search_book.specs.Path.{path}
use Rattle.search_book.specs.JoiningWays.{way_down}
use Rattle.search_book.proofs.path.ancestors.Given as goal

abbrev pub invariant-loop-ids : goal.invariant-loop-ids
invariant-loop-ids l =
    (l.here < length l.entries.entries) × All (λ i. i < length l.entries.entries) l.ids.items
    × (path l.entries.entries l.id ≡ path l.entries.entries l.here ++ way_down l.entries.entries l.ids.items)

abbrev pub decreases-loop-ids : goal.decreases-loop-ids
decreases-loop-ids l = l.here
