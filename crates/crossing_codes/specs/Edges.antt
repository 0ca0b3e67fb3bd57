-- Edges, which lie between the passages of a component. They are numbered from 1 along the components in order:
-- of a component with p passages, behind b edges, passage t comes from edge b + t; it leads to edge b + t + 1, and the last one back to edge b + 1.
use Rattle.std.specs.Prelude.{ℕ, ◌+◌, ◌==◌, ◌&&◌, Bool, not, List, [], ◌∷◌, ◌++◌, map, filter, length, nat_lt, slice_index, if◌then◌else◌}
use Rattle.std.specs.List.{range_with_len, flat_map, position_or_len}
use Rattle.grid_core.specs.Diagram.{Diagram}
use Rattle.crossing_codes.specs.declared.passages.Passage.{Passage}
use Rattle.crossing_codes.specs.Components.{component_starts}
use Rattle.crossing_codes.specs.Passages.{passages, passages_from}

-- the edge to which each of p passages of a component leads, when the components before it have b edges
abbrev pub leads_to : ℕ → ℕ → List ℕ
leads_to b p = map (λ t. if nat_lt t p then b + t + 1 else b + 1) (range_with_len 1 p)

-- the same for components with so many passages each, one after another
abbrev pub all_lead_to : ℕ → List ℕ → List ℕ
all_lead_to b [] = []
all_lead_to b (p ∷ ps) = leads_to b p ++ all_lead_to (b + p) ps

-- the edge to which each passage leads, in the order of the passages
abbrev pub edges_after : Diagram → List ℕ
edges_after d = all_lead_to 0 (map (λ s. length (passages_from d s)) (component_starts d))

-- the number of edges of the components that come before that of start s, which are those of lesser starts: as many as their passages
abbrev pub edges_before : Diagram → ℕ → ℕ
edges_before d s = length (flat_map (passages_from d) (filter (λ e. nat_lt e s) (component_starts d)))

-- the two are the same passage
abbrev pub is_passage : Passage → Passage → Bool
is_passage p q = (if p.over then q.over else not q.over) && (q.column == p.column) && (q.row == p.row)

-- the place of a passage among all, from 0
abbrev pub place : Diagram → Passage → ℕ
place d p = position_or_len (is_passage p) (passages d)

-- the edge from which a passage comes, and the edge to which it leads
abbrev pub edge_from : Diagram → Passage → ℕ
edge_from d p = place d p + 1

abbrev pub edge_to : Diagram → Passage → ℕ
edge_to d p = slice_index (edges_after d) (place d p)

-- the least columns of the components without a passage
abbrev pub loops : Diagram → List ℕ
loops d = filter (λ s. length (passages_from d s) == 0) (component_starts d)
