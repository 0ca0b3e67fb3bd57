-- The colours of the edges and loops of a diagram's code that a colouring of its columns gives.
use Rattle.std.specs.Prelude.{ℕ, ◌+◌, ◌==◌, List, [], ◌∷◌, ◌++◌, map, length, slice_index, if◌then◌else◌}
use Rattle.std.specs.List.{position_or_len, list_any}
use Rattle.grid_core.specs.Diagram.{Diagram}
use Rattle.grid_core.specs.Parts.{is_rightward}
use Rattle.quandle_core.specs.Quandle.{Table}
use Rattle.colour_rows.specs.Walk.{under, walk_to}
use Rattle.crossing_codes.specs.declared.passages.Passage.{Passage}
use Rattle.crossing_codes.specs.Components.{component}
use Rattle.crossing_codes.specs.Passages.{passages, passages_from}
use Rattle.crossing_codes.specs.Edges.{place, loops}

-- the colour of the walk of row r on the side of column c from which its strand comes, which is that of the row's O
abbrev pub walk_before : Table → Diagram → List ℕ → ℕ → ℕ → ℕ
walk_before t d colours r c =
    if is_rightward d r then walk_to t d colours r c else under t d colours (walk_to t d colours r c) c

-- the colour with which the strand comes to a passage: the column's own, or that of the row's walk at this place
abbrev pub arriving : Table → Diagram → List ℕ → Passage → ℕ
arriving t d colours p = if p.over then slice_index colours p.column else walk_before t d colours p.row p.column

-- the colours of the edges, each the one that leads to a passage, and then of the loops
abbrev pub edge_colours : Table → Diagram → List ℕ → List ℕ
edge_colours t d colours = map (arriving t d colours) (passages d) ++ map (slice_index colours) (loops d)

-- the place in the list of the edge or loop on which column c begins: of the edge that leads to the first passage from there on, or of the loop
abbrev pub place_by_first_passage : Diagram → ℕ → List Passage → ℕ
place_by_first_passage d c [] = length (passages d) + position_or_len (λ s. list_any (λ b. b == c) (component d s)) (loops d)
place_by_first_passage d c (p ∷ ps) = place d p

abbrev pub place_where_column_begins : Diagram → ℕ → ℕ
place_where_column_begins d c = place_by_first_passage d c (passages_from d c)
