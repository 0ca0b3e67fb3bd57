-- There are as many code colourings as colourings.
use Rattle.std.proofs.Common.{◌≡◌, ◌<◌, ◌+◌, ◌∙◌, ◌∷◌, [], ℕ, zero, suc, true, List, length, map, sym, ap, subst, arith, inl, ◌&&◌}
use Rattle.std.specs.List.{range_with_len, list_all}
use Rattle.std.proofs.lemmas.Bool.{and_parts}
use Rattle.std.proofs.lemmas.List.{length-map, nil_from_length}
use Rattle.std.proofs.lemmas.List.Elements.{All-head, All-tail}
use Rattle.grid_core.specs.Diagram.{Diagram, IsGrid, size}
use Rattle.quandle_core.specs.Quandle.{Table, IsQuandle}
use Rattle.colour_rows.specs.Colouring.{AreColours, IsColouring, are_colours, is_colouring}
use Rattle.colour_rows.proofs.Colourings.{colours_from, coloured, colouring}
use Rattle.colour_list.specs.Listing.{all_lists, colourings}
use Rattle.crossing_codes.specs.Code.{code}
use Rattle.crossing_codes.specs.CodeColouring.{names_edges, agrees, is_code_colouring, code_colourings}
use Rattle.crossing_codes.specs.EdgeColouring.{edge_colours}
use Rattle.crossing_codes.proofs.Members.{Has, Apart, has_map, of_map, has_filter, of_filter, has_flat_map, has_range, apart_map}
use Rattle.crossing_codes.proofs.Members.{apart_filter, apart_flat_map, apart_range, fewer}
use Rattle.crossing_codes.proofs.ColourForth.{code_coloured, colouring_known}
use Rattle.crossing_codes.proofs.ColourBack.{column_colours, coded, coloured_back, edges_back}

-- all lists of colours are there, each once
has_list : (q n : ℕ) (f : List ℕ) → AreColours n q f → Has (all_lists q n) f
has_list q zero f colours = inl (sym (nil_from_length f colours.0))
has_list q (suc n) [] colours = absurd (let e = colours.0 in omega arith)
has_list q (suc n) (a ∷ f) colours =
    let e = colours.0 in
    has_flat_map (λ b. map (λ rest. b ∷ rest) (all_lists q n)) (range_with_len 0 q) a (a ∷ f)
    (has_range 0 q a (omega arith) (let lt = All-head (λ y. y < q) a f colours.1 in omega arith))
    (has_map (λ rest. a ∷ rest) (all_lists q n) f (has_list q n f (omega arith, All-tail (λ y. y < q) a f colours.1)))

lists_apart : (q n : ℕ) → Apart (all_lists q n)
lists_apart q zero = (λ h. h, tt)
lists_apart q (suc n) =
    apart_flat_map (λ b. map (λ rest. b ∷ rest) (all_lists q n)) (range_with_len 0 q)
    (λ b h. apart_map (λ rest. b ∷ rest) (all_lists q n) (λ f g hf hg e. cc) (lists_apart q n))
    (λ a b f ha hb in_a in_b.
    let r = of_map (λ rest. a ∷ rest) (all_lists q n) f in_a in
    let s = of_map (λ rest. b ∷ rest) (all_lists q n) f in_b in
    let e : a ∷ r.0 ≡ b ∷ s.0 = r.2 ∙ sym s.2 in cc)
    (apart_range 0 q)

-- what stands in the two lists
listed : (t : Table) (d : Diagram) (f : List ℕ) → IsColouring t d f → Has (colourings t d) f
listed t d f c = has_filter (is_colouring t d) (all_lists t.order (size d)) f (has_list t.order (size d) f c.colours_are) (colouring t d f c)

is_listed : (t : Table) (d : Diagram) (f : List ℕ) → Has (colourings t d) f → IsColouring t d f
is_listed t d f h = coloured t d f (of_filter (is_colouring t d) (all_lists t.order (size d)) f h).1

code_listed : (t : Table) (d : Diagram) (e : List ℕ) → is_code_colouring t (code d) e ≡ true → Has (code_colourings t (code d)) e
code_listed t d e h =
    let k = code d in
    let n = k.edges + k.loops in
    let parts = and_parts (are_colours n t.order e) (list_all (λ x. names_edges k.edges x && agrees t e x) k.crossings) h in
    has_filter (is_code_colouring t k) (all_lists t.order n) e (has_list t.order n e (colours_from n t.order e parts.0)) h

is_code_listed : (t : Table) (d : Diagram) (e : List ℕ) → Has (code_colourings t (code d)) e → is_code_colouring t (code d) e ≡ true
is_code_listed t d e h = let k = code d in (of_filter (is_code_colouring t k) (all_lists t.order (k.edges + k.loops)) e h).1

-- each to one of the other, and no two to one
pub as_many : (t : Table) (d : Diagram) → IsGrid d → IsQuandle t → length (code_colourings t (code d)) ≡ length (colourings t d)
as_many t d grid q =
    let k = code d in
    let edge_lists = code_colourings t k in
    let lists = colourings t d in
    let forth = fewer (map (edge_colours t d) lists) edge_lists
    (apart_map (edge_colours t d) lists (λ f g hf hg e. colouring_known t d f g grid q (is_listed t d f hf) (is_listed t d g hg) e)
    (apart_filter (is_colouring t d) (all_lists t.order (size d)) (lists_apart t.order (size d))))
    (λ e h. let r = of_map (edge_colours t d) lists e h in subst (λ z. Has edge_lists z) r.2
    (code_listed t d (edge_colours t d r.0) (code_coloured t d r.0 grid q (is_listed t d r.0 r.1)))) in
    let back = fewer (map (column_colours d) edge_lists) lists
    (apart_map (column_colours d) edge_lists (λ e g he hg same.
    sym (edges_back t d e grid q (coded t d e (is_code_listed t d e he)))
    ∙ (ap (edge_colours t d) same ∙ edges_back t d g grid q (coded t d g (is_code_listed t d g hg))))
    (apart_filter (is_code_colouring t k) (all_lists t.order (k.edges + k.loops)) (lists_apart t.order (k.edges + k.loops))))
    (λ f h. let r = of_map (column_colours d) edge_lists f h in subst (λ z. Has lists z) r.2
    (listed t d (column_colours d r.0) (coloured_back t d r.0 grid q (coded t d r.0 (is_code_listed t d r.0 r.1))))) in
    omega (arith, forth, back, length-map lists (edge_colours t d), length-map edge_lists (column_colours d))
