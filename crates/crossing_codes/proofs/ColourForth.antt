-- The edge colours of a colouring are a code colouring, in which each edge and loop has the colour of the columns that begin on it.
use Rattle.std.proofs.Common.{◌≡◌, ◌<◌, ◌≤◌, ◌+◌, ◌-◌, ◌∙◌, [], inl, inr, ℕ, Bool, true, false, List, length, map, take, get_or, fold, refl}
use Rattle.std.proofs.Common.{sym, ap, subst, arith, ◌&&◌}
use Rattle.std.specs.Prelude.{if◌then◌else◌, slice_index}
use Rattle.std.specs.List.{All, list_all}
use Rattle.std.proofs.lemmas.Bool.{cases_lt, and_from}
use Rattle.std.proofs.lemmas.List.{length-append, length-map, get_or_append_left, get_or-append-add, get_or-map, take_all, take_at, ext_get_or, nil_from_length}
use Rattle.std.proofs.lemmas.List.Elements.{All-append, All-map}
use Rattle.std.proofs.lemmas.List.Sums.{fold_more}
use Rattle.grid_core.specs.Diagram.{Diagram, IsGrid, size}
use Rattle.grid_core.specs.Parts.{is_up, is_rightward}
use Rattle.quandle_core.specs.Quandle.{Table, IsQuandle}
use Rattle.colour_rows.specs.Walk.{under, walk_to}
use Rattle.colour_rows.specs.Colouring.{IsColouring, are_colours}
use Rattle.colour_rows.proofs.Colourings.{colours_test}
use Rattle.grid_core.proofs.Ends.{has_ends}
use Rattle.crossing_codes.specs.declared.passages.Passage.{Passage}
use Rattle.crossing_codes.specs.Components.{column_after, round_length}
use Rattle.crossing_codes.specs.Passages.{crossings, through, passages_from, passages}
use Rattle.crossing_codes.specs.Edges.{place, edges_after, loops}
use Rattle.crossing_codes.specs.Code.{crossing, code}
use Rattle.crossing_codes.specs.CodeColouring.{agrees, names_edges, is_code_colouring}
use Rattle.crossing_codes.specs.EdgeColouring.{arriving, edge_colours, place_where_column_begins}
use Rattle.crossing_codes.specs.OnTheWay.{passing}
use Rattle.crossing_codes.proofs.Members.{Has, has_at, of_map, place_in}
use Rattle.crossing_codes.proofs.SharedColumns.{all_pass, which_after, start_of, start_below}
use Rattle.crossing_codes.proofs.Crossings.{cell, IsCrossing, of_crossings}
use Rattle.crossing_codes.proofs.AllPassages.{passage_at, stands_at}
use Rattle.crossing_codes.proofs.RowWalks.{Coloured, coloured_from, walk_to_stays, scans_at}
use Rattle.crossing_codes.proofs.Legs.{legs, legs_follow, round_follows}
use Rattle.crossing_codes.proofs.Placed.{IsPlaced, among, placed}
use Rattle.crossing_codes.proofs.Strands.{before, before_most, round_parts, turn_less, turn_whole, begins_on_edge, begins_on_loop, loop_start, has_loop}
use Rattle.crossing_codes.proofs.Turns.{after_colour, Turns, Says, goes, meets, meets_from, positive_is, says_agrees, crossing_names}
use Rattle.colour_rows.proofs.Walks.{turn_stays}

-- the colours of an edge and of a loop
pub edge_at : (t : Table) (d : Diagram) (f : List ℕ) (i : ℕ) (z : Passage) → i < length (passages d)
    → get_or (edge_colours t d f) i 0 ≡ arriving t d f (get_or (passages d) i z)
edge_at t d f i z lt =
    get_or_append_left (map (arriving t d f) (passages d)) (map (slice_index f) (loops d)) 0 i (omega (arith, length-map (passages d) (arriving t d f), lt))
    ∙ get_or-map (arriving t d f) (passages d) i z 0 lt

pub loop_at : (t : Table) (d : Diagram) (f : List ℕ) (j : ℕ) → j < length (loops d)
    → get_or (edge_colours t d f) (length (passages d) + j) 0 ≡ get_or f (get_or (loops d) j 0) 0
loop_at t d f j lt =
    ap (λ (i : ℕ). get_or (edge_colours t d f) (i + j) 0) (sym (length-map (passages d) (arriving t d f)))
    ∙ (get_or-append-add (map (arriving t d f) (passages d)) (map (slice_index f) (loops d)) j 0
    ∙ get_or-map (slice_index f) (loops d) j 0 0 lt)

pub edges_length : (t : Table) (d : Diagram) (f : List ℕ) → length (edge_colours t d f) ≡ length (passages d) + length (loops d)
edges_length t d f =
    omega (
      arith,
      length-append (map (arriving t d f) (passages d)) (map (slice_index f) (loops d)),
      length-map (passages d) (arriving t d f),
      length-map
          (loops d) (slice_index f),
    )

-- the edges of a component have the colours that its strand has on the way from its start
pub on_the_way : (t : Table) (d : Diagram) (f : List ℕ) → IsGrid d → IsQuandle t → IsColouring t d f → (s b k : ℕ) → IsPlaced d s b
    → k < length (passages_from d s)
    → get_or (edge_colours t d f) (b + k) 0 ≡ fold (passing t d f) (get_or f s 0) (take k (passages_from d s))
on_the_way t d f grid q colouring s b k p lt =
    let z : Passage = record { over = true; column = 0; row = 0 } in
    let inside = p.within in
    edge_at t d f (b + k) z (omega arith)
    ∙ (ap (arriving t d f) (p.passage k z lt)
    ∙ scans_at t d f (get_or f s 0) (passages_from d s) k z (round_follows t d f grid q colouring s (start_below d s p.start)).scans lt)

pub turns_forth : (t : Table) (d : Diagram) (f : List ℕ) → IsGrid d → IsQuandle t → IsColouring t d f → Turns t d f (edge_colours t d f)
turns_forth t d f grid q colouring i z lt =
    let a = among d grid i lt in
    let ps = passages_from d a.s in
    let e = edge_colours t d f in
    let x = get_or f a.s 0 in
    let way = on_the_way t d f grid q colouring a.s a.b in
    let here : get_or e i 0 ≡ fold (passing t d f) x (take a.k ps) = ap (λ (j : ℕ). get_or e j 0) a.is ∙ way a.k a.component a.within in
    let which : get_or (passages d) i z ≡ get_or ps a.k z = ap (λ (j : ℕ). get_or (passages d) j z) a.is ∙ a.component.passage a.k z a.within in
    let more : fold (passing t d f) x (take (a.k + 1) ps) ≡ passing t d f (get_or e i 0) (get_or (passages d) i z) =
    fold_more (passing t d f) x ps a.k z a.within ∙ (ap (λ y. passing t d f y (get_or ps a.k z)) (sym here) ∙ ap (passing t d f (get_or e i 0)) (sym which)) in
    let less = a.within in
    elim (cases_lt (a.k + 1) (length ps)) [
      | inl next ↦
          let to : get_or (edges_after d) i 0 - 1 ≡ a.b + (a.k + 1) = omega (arith, ap (λ j. get_or (edges_after d) j 0) a.is ∙ a.component.next a.k next) in
          ap (λ (j : ℕ). get_or e j 0) to ∙ (way (a.k + 1) a.component next ∙ more)
      | inr last ↦
          let to : get_or (edges_after d) i 0 - 1 ≡ a.b + 0 = omega (arith, ap (λ j. get_or (edges_after d) j 0) a.is ∙ a.component.last a.k (omega arith)) in
          let whole : take (a.k + 1) ps ≡ ps = take_all (a.k + 1) ps last in
          ap (λ (j : ℕ). get_or e j 0) to
          ∙ (way 0 a.component (omega arith)
          ∙ (sym (round_follows t d f grid q colouring a.s (start_below d a.s a.component.start)).ends ∙ (ap (fold (passing t d f) x) (sym whole) ∙ more)))
    ]

-- colours stay below the order
arrives_by : (t : Table) (d : Diagram) (f : List ℕ) → (over rightward : Bool) (column before after : ℕ) → column < t.order → before < t.order
    → after < t.order → (if over then column else (if rightward then before else after)) < t.order
arrives_by t d f true r column before after a b c = a
arrives_by t d f false true column before after a b c = b
arrives_by t d f false false column before after a b c = c

arrives_below : (t : Table) (d : Diagram) (f : List ℕ) → IsGrid d → Coloured t d f → (p : Passage) → Has (passages d) p → arriving t d f p < t.order
arrives_below t d f grid c p h =
    let at = passage_at d grid p h in
    let ends = has_ends d grid p.row at.0 in
    let ordered = ends.ordered in
    let within = ends.within in
    let inside = at.1 in
    let w = walk_to_stays t d f c p.row p.column (omega arith) (omega arith) in
    arrives_by t d f p.over (is_rightward d p.row) (get_or f p.column 0) (walk_to t d f p.row p.column) (under t d f (walk_to t d f p.row p.column) p.column)
    (c.below p.column at.1) w (turn_stays t c.quandle (is_up d p.column) (walk_to t d f p.row p.column) (get_or f p.column 0) w (c.below p.column at.1))

pub edges_below : (t : Table) (d : Diagram) (f : List ℕ) → IsGrid d → Coloured t d f → All (λ y. y < t.order) (edge_colours t d f)
edges_below t d f grid c =
    All-append (λ y. y < t.order) (map (arriving t d f) (passages d)) (map (slice_index f) (loops d))
    (All-map (λ y. y < t.order) (arriving t d f) (passages d) (λ k z lt. arrives_below t d f grid c (get_or (passages d) k z) (has_at (passages d) k z lt)))
    (All-map (λ y. y < t.order) (slice_index f) (loops d)
    (λ k z lt. c.below (get_or (loops d) k z) (start_below d (get_or (loops d) k z) (loop_start d (get_or (loops d) k z) (has_at (loops d) k z lt)))))

-- what the colours say at each crossing
says_forth : (t : Table) (d : Diagram) (f : List ℕ) → IsGrid d → IsQuandle t → IsColouring t d f → (c r : ℕ) → r < size d → IsCrossing d c r
    → Says t d (edge_colours t d f) c r
says_forth t d f grid q colouring c r lt x =
    let z : Passage = record { over = true; column = 0; row = 0 } in
    let e = edge_colours t d f in
    let coloured = coloured_from t d f q colouring.colours_are in
    let above = stands_at d grid true c r lt x in
    let below = stands_at d grid false c r lt x in
    let o = place d (through true (cell c r)) in
    let u = place d (through false (cell c r)) in
    let turns = turns_forth t d f grid q colouring in
    let column : get_or e o 0 ≡ get_or f c 0 = edge_at t d f o z above.within ∙ ap (arriving t d f) (above.stands z) in
    let under_at : get_or e u 0 < t.order = edges_below t d f grid coloured u 0 (omega (arith, edges_length t d f, below.within)) in
    let over_at : get_or e o 0 < t.order = edges_below t d f grid coloured o 0 (omega (arith, edges_length t d f, above.within)) in
    record {
      over = turns o z above.within ∙ ap (passing t d f (get_or e o 0)) (above.stands z);
      under = ap (λ b. meets t b (get_or e u 0) (get_or e o 0) (after_colour d e u)) (positive_is d c r)
          ∙ meets_from t q (is_up d c) (is_rightward d r) (get_or e u 0) (get_or e o 0) (after_colour d e u) under_at over_at
          (turns u z below.within
          ∙ (ap (passing t d f (get_or e u 0)) (below.stands z) ∙ ap (λ y. goes t (is_up d c) (is_rightward d r) (get_or e u 0) y) (sym column)));
    }

-- the edge colours of a colouring are a code colouring
pub code_coloured : (t : Table) (d : Diagram) (f : List ℕ) → IsGrid d → IsQuandle t → IsColouring t d f
    → is_code_colouring t (code d) (edge_colours t d f) ≡ true
code_coloured t d f grid q colouring =
    let e = edge_colours t d f in
    let coloured = coloured_from t d f q colouring.colours_are in
    and_from (are_colours (length (passages d) + length (loops d)) t.order e)
    (list_all (λ x. names_edges (length (passages d)) x && agrees t e x) (map (crossing d) (crossings d)))
    (colours_test (length (passages d) + length (loops d)) t.order e (edges_length t d f, edges_below t d f grid coloured))
    (all_pass (λ x. names_edges (length (passages d)) x && agrees t e x) (map (crossing d) (crossings d)) (λ x h.
    let a = of_map (crossing d) (crossings d) x h in
    let at = of_crossings d a.0 a.1 in
    subst (λ w. (names_edges (length (passages d)) w && agrees t e w) ≡ true) a.2
    (and_from (names_edges (length (passages d)) (crossing d a.0)) (agrees t e (crossing d a.0))
    (crossing_names d grid a.0.column a.0.row at.0 at.1)
    (says_agrees t d e a.0.column a.0.row (says_forth t d f grid q colouring a.0.column a.0.row at.0 at.1)))))

-- each column has the colour of the edge or loop on which it begins
pub column_colour : (t : Table) (d : Diagram) (f : List ℕ) → IsGrid d → IsQuandle t → IsColouring t d f → (c : ℕ) → c < size d
    → get_or (edge_colours t d f) (place_where_column_begins d c) 0 ≡ get_or f c 0
column_colour t d f grid q colouring c lt =
    let s = start_of d grid c lt in
    let j = which_after d s.0 c s.2 in
    let p = placed d s.0 s.1 in
    let e = edge_colours t d f in
    let ps = passages_from d s.0 in
    let below = start_below d s.0 s.1 in
    let x = get_or f s.0 0 in
    let most : j.0 ≤ round_length d s.0 = let less = j.1 in omega arith in
    let parts = round_parts d s.0 j.0 most in
    let n = before d s.0 j.0 in
    let so_far : fold (passing t d f) x (legs d s.0 0 j.0) ≡ get_or f c 0 =
    (legs_follow t d f grid q colouring s.0 j.0 below).ends ∙ ap (λ k. get_or f k 0) j.2 in
    let front : take n ps ≡ legs d s.0 0 j.0 =
    ap (λ (ws : List Passage). take n ws) parts ∙ take_at (legs d s.0 0 j.0) (legs d s.0 j.0 (round_length d s.0 - j.0)) n refl in
    elim (cases_lt 0 (length ps)) [
      | inl some ↦
          ap (λ k. get_or e (place_where_column_begins d k) 0) (sym j.2)
          ∙ (ap (λ (k : ℕ). get_or e k 0) (begins_on_edge d grid s.0 p.0 j.0 p.1 most some)
          ∙ elim (cases_lt n (length ps)) [
            | inl less ↦
                ap (λ (k : ℕ). get_or e (p.0 + k) 0) (turn_less (length ps) n less)
                ∙ (on_the_way t d f grid q colouring s.0 p.0 n p.1 less ∙ (ap (fold (passing t d f) x) front ∙ so_far))
            | inr whole ↦
                ap (λ (k : ℕ). get_or e (p.0 + k) 0) (turn_whole (length ps) n whole)
                ∙ (on_the_way t d f grid q colouring s.0 p.0 0 p.1 some
                ∙ (sym (round_follows t d f grid q colouring s.0 below).ends ∙ (ap (fold (passing t d f) x) (sym (take_all n ps whole) ∙ front) ∙ so_far)))
          ])
      | inr none ↦
          let empty : length ps ≡ 0 = omega arith in
          let at = place_in (loops d) s.0 (has_loop d s.0 s.1 empty) in
          let home : get_or (loops d) at.0 0 ≡ s.0 = at.2 0 in
          let no_legs : legs d s.0 0 j.0 ≡ [] = nil_from_length (legs d s.0 0 j.0) (let m = before_most d s.0 j.0 most in omega arith) in
          ap (λ k. get_or e (place_where_column_begins d k) 0) (sym j.2 ∙ ap (column_after d j.0) (sym home))
          ∙ (ap (λ (k : ℕ). get_or e k 0) (begins_on_loop d grid at.0 j.0 at.1 (subst (λ k. j.0 < round_length d k) (sym home) j.1))
          ∙ (loop_at t d f at.0 at.1
          ∙ (ap (λ k. get_or f k 0) home ∙ (ap (fold (passing t d f) x) (sym no_legs) ∙ so_far))))
    ]

-- so a colouring is known by its edge colours
pub colouring_known : (t : Table) (d : Diagram) (f h : List ℕ) → IsGrid d → IsQuandle t → IsColouring t d f → IsColouring t d h
    → edge_colours t d f ≡ edge_colours t d h → f ≡ h
colouring_known t d f h grid q colours_f colours_h e =
    ext_get_or 0 f h (colours_f.colours_are.0 ∙ sym colours_h.colours_are.0)
    (λ c lt. let inside : c < size d = let n = colours_f.colours_are.0 in omega arith in
    sym (column_colour t d f grid q colours_f c inside)
    ∙ (ap (λ (es : List ℕ). get_or es (place_where_column_begins d c) 0) e ∙ column_colour t d h grid q colours_h c inside))
