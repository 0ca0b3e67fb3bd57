-- Colourings of a crossing code by a quandle: a colour for each edge and each loop (Joyce 1982).
use Rattle.std.specs.Prelude.{ℕ, ◌+◌, ◌-◌, ◌==◌, ◌&&◌, Bool, List, slice_index, nat_le, if◌then◌else◌}
use Rattle.std.specs.List.{filter, list_all}
use Rattle.quandle_core.specs.Quandle.{Table, over}
use Rattle.colour_rows.specs.Colouring.{are_colours}
use Rattle.colour_list.specs.Listing.{all_lists}
use Rattle.crossing_codes.specs.declared.crossing.Code.{Code}
use Rattle.crossing_codes.specs.declared.crossing.Crossing.{Crossing}

-- the colour of an edge in a list of the colours of edges 1, 2, .. and then of the loops
abbrev pub edge_colour : List ℕ → ℕ → ℕ
edge_colour colours edge = slice_index colours (edge - 1)

-- the strand over keeps its colour, and the strand under goes from x to x ▷ y where it passes from the right of the strand of colour y to its left
abbrev pub agrees : Table → List ℕ → Crossing → Bool
agrees t colours x =
    (edge_colour colours x.second == edge_colour colours x.fourth)
    && (if x.positive then edge_colour colours x.third == over t (edge_colour colours x.first) (edge_colour colours x.second)
    else edge_colour colours x.first == over t (edge_colour colours x.third) (edge_colour colours x.second))

-- edge numbers lie from 1 to the number of edges
abbrev pub is_edge : ℕ → ℕ → Bool
is_edge edges edge = nat_le 1 edge && nat_le edge edges

abbrev pub names_edges : ℕ → Crossing → Bool
names_edges edges x = is_edge edges x.first && is_edge edges x.second && is_edge edges x.third && is_edge edges x.fourth

-- a colour below the order for each edge and each loop, such that each crossing names edges of the code and agrees
abbrev pub is_code_colouring : Table → Code → List ℕ → Bool
is_code_colouring t code colours =
    are_colours (code.edges + code.loops) t.order colours
    && list_all (λ x. names_edges code.edges x && agrees t colours x) code.crossings

-- all colourings of a code, in lexicographic order
abbrev pub code_colourings : Table → Code → List (List ℕ)
code_colourings t code = filter (is_code_colouring t code) (all_lists t.order (code.edges + code.loops))
