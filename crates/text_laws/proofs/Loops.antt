-- The order of edges and loops.
use Rattle.std.proofs.Common.{◌≡◌, ◌<◌, ◌+◌, ◌∙◌, ◌==◌, ◌↔◌, [], ℕ, Bool, true, List, length, map, take, drop, slice_index, arith, ap, sym}
use Rattle.std.specs.Prelude.{Contains, AllPairs}
use Rattle.std.specs.List.{range_with_len}
use Rattle.std.proofs.lemmas.Bool.{eqb-true, eq-eqb}
use Rattle.std.proofs.lemmas.List.{length-map, nil_from_length}
use Rattle.std.proofs.Math.Seq.{take-append_seam, drop-append_seam}
use Rattle.grid_core.specs.Diagram.{Diagram, size}
use Rattle.quandle_core.specs.Quandle.{Table}
use Rattle.crossing_codes.specs.Components.{is_least, component_starts}
use Rattle.crossing_codes.specs.Passages.{passages, passages_from}
use Rattle.crossing_codes.specs.Edges.{loops}
use Rattle.crossing_codes.specs.EdgeColouring.{edge_colours, arriving}
use Rattle.crossing_codes.proofs.EdgeLaws.{has_contained, contained}
use Rattle.crossing_codes.proofs.Members.{has_filter, of_filter, has_range, of_range}
use Rattle.crossing_codes.proofs.Ordered.{ordered_filter, ordered_range, all_pairs}

abbrev has_none : Diagram → ℕ → Bool
has_none d s = length (passages_from d s) == 0

pub loops_ascend : (d : Diagram) → AllPairs (λ (a b : ℕ). a < b) (loops d)
loops_ascend d =
    all_pairs (λ (a b : ℕ). a < b) (loops d)
    (ordered_filter (λ (a b : ℕ). a < b) (has_none d) (component_starts d)
    (ordered_filter (λ (a b : ℕ). a < b) (is_least d) (range_with_len 0 (size d)) (ordered_range 0 (size d))))

pub loops_are : (d : Diagram) (s : ℕ) → Contains (loops d) s ↔ ((s < size d) × (is_least d s ≡ true) × (passages_from d s ≡ []))
loops_are d s = (there, back)
  where
    there : Contains (loops d) s → (s < size d) × (is_least d s ≡ true) × (passages_from d s ≡ [])
    there has =
        let outer = of_filter (has_none d) (component_starts d) s (has_contained (loops d) s has) in
        let inner = of_filter (is_least d) (range_with_len 0 (size d)) s outer.0 in
        let low = of_range 0 (size d) s inner.0 in
        (omega (arith, low.1), inner.1, nil_from_length (passages_from d s) (eqb-true (length (passages_from d s)) 0 outer.1))

    back : (s < size d) × (is_least d s ≡ true) × (passages_from d s ≡ []) → Contains (loops d) s
    back is =
        contained (loops d) s
        (has_filter (has_none d) (component_starts d) s
        (has_filter (is_least d) (range_with_len 0 (size d)) s (has_range 0 (size d) s (omega arith) (omega (arith, is.0))) is.1)
        (eq-eqb (length (passages_from d s)) 0 (ap length is.2)))

pub edges_first : (t : Table) (d : Diagram) (colours : List ℕ)
    → take (length (passages d)) (edge_colours t d colours) ≡ map (arriving t d colours) (passages d)
edges_first t d colours =
    ap (λ (k : ℕ). take k (edge_colours t d colours)) (sym (length-map (passages d) (arriving t d colours)))
    ∙ take-append_seam (map (arriving t d colours) (passages d)) (map (slice_index colours) (loops d))

pub loops_behind : (t : Table) (d : Diagram) (colours : List ℕ)
    → drop (length (passages d)) (edge_colours t d colours) ≡ map (slice_index colours) (loops d)
loops_behind t d colours =
    ap (λ (k : ℕ). drop k (edge_colours t d colours)) (sym (length-map (passages d) (arriving t d colours)))
    ∙ drop-append_seam (map (arriving t d colours) (passages d)) (map (slice_index colours) (loops d))
