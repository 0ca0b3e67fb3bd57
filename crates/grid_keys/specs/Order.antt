-- The order on diagrams of one size: by the rows of the Xs, then by the rows of the Os, both lexicographically from the left.
use Rattle.std.specs.Prelude.{◌≡◌, true}
use Rattle.std.specs.Ordering.{nat_cmp, ordering_then, is_le}
use Rattle.std.specs.declared.cmp.Ordering.{Ordering}
use Rattle.std.specs.Cmp.Lexicographic.{slice_cmp}
use Rattle.grid_core.specs.Diagram.{Diagram}

abbrev pub compare : Diagram → Diagram → Ordering
compare d e = ordering_then (slice_cmp nat_cmp d.x e.x) (slice_cmp nat_cmp d.o e.o)

-- d is e or comes before it
abbrev pub IsAtMost : Diagram → Diagram → Type 0
IsAtMost d e = is_le (compare d e) ≡ true
