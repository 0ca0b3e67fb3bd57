-- Each code colouring is the edge colours of a colouring: that in which each column has the colour of the edge or loop on which it begins.
use Rattle.std.proofs.Common.{◌≡◌, ◌<◌, ◌≤◌, ◌+◌, ◌-◌, ◌++◌, ◌∙◌, [], inl, inr, ℕ, zero, suc, Bool, true, false, List, length, map, take}
use Rattle.std.proofs.Common.{get_or, fold, refl, sym, ap, subst, arith, ◌&&◌}
use Rattle.std.specs.Prelude.{if◌then◌else◌}
use Rattle.std.specs.List.{All, list_all, range_with_len}
use Rattle.std.proofs.lemmas.Bool.{cases_lt, cases_Bool, and_parts}
use Rattle.std.proofs.lemmas.List.{length-append, get_or_append_left, get_or-append-add, take_at, ext_get_or, nil_from_length}
use Rattle.std.proofs.lemmas.List.FromFn.{length-map-range_with_len, get_or-map-range_with_len}
use Rattle.std.proofs.lemmas.List.Elements.{All-get_or, All-from_get_or}
use Rattle.std.proofs.lemmas.List.Sums.{fold_more, fold-append}
use Rattle.grid_core.specs.declared.mark.Kind.TheVariants.{Cross, Ring}
use Rattle.grid_core.specs.Diagram.{Diagram, IsGrid, size, row_of}
use Rattle.grid_core.specs.Parts.{column_of, is_up, is_rightward}
use Rattle.grid_core.proofs.Marks.{column_mark}
use Rattle.grid_core.specs.Crossing.{is_positive}
use Rattle.quandle_core.specs.Quandle.{Table, IsQuandle}
use Rattle.colour_rows.specs.Colouring.{AreColours, IsColouring, are_colours}
use Rattle.colour_rows.proofs.Colourings.{colours_from}
use Rattle.crossing_codes.specs.declared.passages.Passage.{Passage}
use Rattle.crossing_codes.specs.declared.crossing.Crossing.{Crossing}
use Rattle.crossing_codes.specs.Components.{next_column, column_after, round_length}
use Rattle.crossing_codes.specs.Passages.{crossings, through, as_met, passed_over, along_column, along_row, along, passages_from, passages}
use Rattle.crossing_codes.specs.Edges.{place, edges_after, loops}
use Rattle.crossing_codes.specs.Code.{crossing, code}
use Rattle.crossing_codes.specs.CodeColouring.{agrees, names_edges, is_code_colouring}
use Rattle.crossing_codes.specs.EdgeColouring.{arriving, edge_colours, place_where_column_begins}
use Rattle.crossing_codes.specs.OnTheWay.{passing}
use Rattle.crossing_codes.proofs.Members.{Has, has_at, has_map, place_in}
use Rattle.crossing_codes.proofs.ColumnsAfter.{after_below, round_is}
use Rattle.crossing_codes.proofs.SharedColumns.{each_passes, which_after, start_of, start_below}
use Rattle.crossing_codes.proofs.Crossings.{cell, IsCrossing, column_inside, has_met, over_along, under_along, in_column, has_crossing}
use Rattle.crossing_codes.proofs.AllPassages.{passage_at, place_is, stands_at}
use Rattle.crossing_codes.proofs.RowWalks.{column_keeps, coloured_from, row_closes, scans_at}
use Rattle.crossing_codes.proofs.Legs.{legs, legs_more, round_follows}
use Rattle.crossing_codes.proofs.Placed.{IsPlaced, among, placed, leads_within}
use Rattle.crossing_codes.proofs.Strands.{before, before_most, round_parts, turn, turn_less, turn_whole, begins_on_edge, begins_on_loop, loop_start, has_loop}
use Rattle.crossing_codes.proofs.Turns.{after_colour, Turns, Says, goes, meets, meets_to, agrees_says, positive_is}
use Rattle.crossing_codes.proofs.ColourForth.{edge_at, loop_at, edges_length}

-- the colours of the columns, each that of the edge or loop on which it begins
abbrev pub column_colours : Diagram → List ℕ → List ℕ
column_colours d e = map (λ c. get_or e (place_where_column_begins d c) 0) (range_with_len 0 (size d))

pub column_colours_at : (d : Diagram) (e : List ℕ) (c : ℕ) → c < size d → get_or (column_colours d e) c 0 ≡ get_or e (place_where_column_begins d c) 0
column_colours_at d e c lt = get_or-map-range_with_len (λ k. get_or e (place_where_column_begins d k) 0) 0 (size d) c c 0 lt (omega arith)

-- what is known of a code colouring
pub record IsCoded (t : Table) (d : Diagram) (e : List ℕ) : Type 0 where
  pub long : length e ≡ length (passages d) + length (loops d)
  pub below : All (λ y. y < t.order) e
  pub says : (c r : ℕ) → r < size d → IsCrossing d c r → Says t d e c r

pub coded : (t : Table) (d : Diagram) (e : List ℕ) → is_code_colouring t (code d) e ≡ true → IsCoded t d e
coded t d e h =
    let n = length (passages d) in
    let test : Crossing → Bool = λ x. names_edges n x && agrees t e x in
    let parts = and_parts (are_colours (n + length (loops d)) t.order e) (list_all test (map (crossing d) (crossings d))) h in
    let colours = colours_from (n + length (loops d)) t.order e parts.0 in
    record {
      long = colours.0;
      below = colours.1;
      says = λ c r lt x.
          agrees_says t d e c r (and_parts (names_edges n (crossing d (cell c r))) (agrees t e (crossing d (cell c r)))
          (each_passes test (map (crossing d) (crossings d)) parts.1 (crossing d (cell c r))
          (has_map (crossing d) (crossings d) (cell c r) (has_crossing d c r lt x)))).1;
    }

pub strand_below : (d : Diagram) → IsGrid d → (c : ℕ) → c < size d → place_where_column_begins d c < length (passages d) + length (loops d)
strand_below d grid c lt =
    let s = start_of d grid c lt in
    let j = which_after d s.0 c s.2 in
    let p = placed d s.0 s.1 in
    let n = length (passages_from d s.0) in
    let inside = p.1.within in
    elim (cases_lt 0 n) [
      | inl some ↦
          let e = ap (place_where_column_begins d) (sym j.2) ∙ begins_on_edge d grid s.0 p.0 j.0 p.1 (let less = j.1 in omega arith) some in
          elim (cases_lt (before d s.0 j.0) n) [
            | inl less ↦ omega (arith, e, turn_less n (before d s.0 j.0) less)
            | inr whole ↦ omega
                (arith, e, turn_whole n (before d s.0 j.0) whole)
          ]
      | inr none ↦
          let at = place_in (loops d) s.0 (has_loop d s.0 s.1 (omega arith)) in
          let less = at.1 in
          let home : get_or (loops d) at.0 0 ≡ s.0 = at.2 0 in
          let e =
          ap (place_where_column_begins d) (sym j.2 ∙ ap (column_after d j.0) (sym home))
          ∙ begins_on_loop d grid at.0 j.0 at.1 (subst (λ k. j.0 < round_length d k) (sym home) j.1) in
          omega arith
    ]

pub columns_coloured : (t : Table) (d : Diagram) (e : List ℕ) → IsGrid d → IsQuandle t → IsCoded t d e → AreColours (size d) t.order (column_colours d e)
columns_coloured t d e grid q c = (
  length-map-range_with_len (λ k. get_or e (place_where_column_begins d k) 0) 0 (size d),
  All-from_get_or (λ y. y < t.order) (column_colours d e) 0 (λ k lt.
      let inside : k < size d = omega (arith, length-map-range_with_len (λ i. get_or e (place_where_column_begins d i) 0) 0 (size d), lt) in
      let within = strand_below d grid k inside in
      let long = c.long in
      subst (λ y. y < t.order) (sym (column_colours_at d e k inside))
      (All-get_or (λ y. y < t.order) e (place_where_column_begins d k) 0 (omega arith) c.below)),
)

-- over passages keep the colour of an edge
keeps_over : (t : Table) (d : Diagram) (e : List ℕ) → IsGrid d → IsCoded t d e → (i : ℕ) (z : Passage) → i < length (passages d)
    → (get_or (passages d) i z).over ≡ true → after_colour d e i ≡ get_or e i 0
keeps_over t d e grid coded i z lt over =
    let p = get_or (passages d) i z in
    let at = passage_at d grid p (has_at (passages d) i z lt) in
    let is : place d (through true (cell p.column p.row)) ≡ i =
    place_is d grid true p.column p.row i z lt (ap (λ (b : Bool). let w : Passage = record { over = b; column = p.column; row = p.row } in w) over) in
    ap (after_colour d e) (sym is) ∙ ((coded.says p.column p.row at.0 at.2).over ∙ ap (λ (k : ℕ). get_or e k 0) is)

-- along the first m passages over from place q of a component on, the colour stays
keeps_along : (t : Table) (d : Diagram) (e : List ℕ) → IsGrid d → IsCoded t d e → (s b q m : ℕ) (z : Passage) → IsPlaced d s b
    → q + m < length (passages_from d s)
    → ((k : ℕ) → k < m → (get_or (passages_from d s) (q + k) z).over ≡ true) → get_or e (b + (q + m)) 0 ≡ get_or e (b + q) 0
keeps_along t d e grid coded s b q zero z p lt over =
    let same : b + (q + zero) ≡ b + q = omega arith in ap (λ (i : ℕ). get_or e i 0) same
keeps_along t d e grid coded s b q (suc m) z p lt over =
    let i = b + (q + m) in
    let inside = p.within in
    let before : get_or e i 0 ≡ get_or e (b + q) 0 = keeps_along t d e grid coded s b q m z p (omega arith) (λ k less. over k (omega arith)) in
    let here : (get_or (passages d) i z).over ≡ true = ap (λ (w : Passage). w.over) (p.passage (q + m) z (omega arith)) ∙ over m (omega arith) in
    let next : get_or (edges_after d) i 0 - 1 ≡ b + (q + suc m) = omega (arith, p.next (q + m) (omega arith)) in
    ap (λ (j : ℕ). get_or e j 0) (sym next) ∙ (keeps_over t d e grid coded i z (omega arith) here ∙ before)

-- the strand over at a crossing has the colour of its column
over_colour : (t : Table) (d : Diagram) (e : List ℕ) → IsGrid d → IsCoded t d e → (c r : ℕ) → c < size d → IsCrossing d c r
    → get_or e (place d (through true (cell c r))) 0 ≡ get_or e (place_where_column_begins d c) 0
over_colour t d e grid coded c r lt x =
    let z : Passage = record { over = true; column = 0; row = 0 } in
    let s = start_of d grid c lt in
    let j = which_after d s.0 c s.2 in
    let p = placed d s.0 s.1 in
    let ps = passages_from d s.0 in
    let less_round = j.1 in
    let q = before d s.0 j.0 in
    let rows = as_met (is_up d c) (passed_over d c) in
    let column = along_column d c in
    let rest = along_row d (row_of Ring d c) in
    let at =
    place_in column (through true (cell c r)) (has_map (λ k. through true (cell c k)) rows r (has_met (is_up d c) (passed_over d c) r (in_column d c r x))) in
    let m = at.0 in
    let within = at.1 in
    let parts = round_parts d s.0 (suc j.0) (omega arith) in
    let e1 : 0 + j.0 ≡ j.0 = omega arith in
    let leg : legs d s.0 0 (suc j.0) ≡ legs d s.0 0 j.0 ++ (column ++ rest) =
    legs_more d s.0 0 j.0 ∙ ap (λ (k : ℕ). legs d s.0 0 j.0 ++ along d k) (ap (λ i. column_after d i s.0) e1 ∙ j.2) in
    let n1 = length-append (legs d s.0 0 j.0) (column ++ rest) in
    let n2 = length-append column rest in
    let n3 = ap length leg in
    let n4 = before_most d s.0 (suc j.0) (omega arith) in
    let behind = legs d s.0 (suc j.0) (round_length d s.0 - suc j.0) in
    let which : (k : ℕ) → k < length column → get_or ps (q + k) z ≡ get_or column k z =
    λ k less. ap (λ (ws : List Passage). get_or ws (q + k) z) (parts ∙ ap (λ ws. ws ++ behind) leg)
    ∙ (get_or_append_left (legs d s.0 0 j.0 ++ (column ++ rest)) behind z (q + k) (omega arith)
    ∙ (get_or-append-add (legs d s.0 0 j.0) (column ++ rest) k z
    ∙ get_or_append_left column rest z k less)) in
    let deep : q + m < length ps = omega arith in
    let inside = p.1.within in
    let is : place d (through true (cell c r)) ≡ p.0 + (q + m) =
    place_is d grid true c r (p.0 + (q + m)) z (omega arith) (p.1.passage (q + m) z deep ∙ (which m within ∙ at.2 z)) in
    let start : place_where_column_begins d c ≡ p.0 + q =
    ap (place_where_column_begins d) (sym j.2)
    ∙ (begins_on_edge d grid s.0 p.0 j.0 p.1 (omega arith) (omega arith) ∙ ap (λ (k : ℕ). p.0 + k) (turn_less (length ps) q (omega arith))) in
    ap (λ (k : ℕ). get_or e k 0) is
    ∙ (keeps_along t d e grid coded s.0 p.0 q m z p.1 deep
    (λ k less. ap (λ (w : Passage). w.over) (which k (omega arith)) ∙ (over_along d c (get_or column k z) (has_at column k z (omega arith))).over)
    ∙ ap (λ (k : ℕ). get_or e k 0) (sym start))

-- the strand under at a crossing turns by its column
turns_under : (t : Table) (d : Diagram) (e : List ℕ) → IsGrid d → IsQuandle t → IsCoded t d e → (i : ℕ) (z : Passage) → i < length (passages d)
    → (get_or (passages d) i z).over ≡ false
    → after_colour d e i ≡ goes t (is_up d (get_or (passages d) i z).column) (is_rightward d (get_or (passages d) i z).row) (get_or e i 0) (get_or (column_colours d e) (get_or (passages d) i z).column 0)
turns_under t d e grid q coded i z lt under =
    let p = get_or (passages d) i z in
    let c = p.column in
    let r = p.row in
    let at = passage_at d grid p (has_at (passages d) i z lt) in
    let says = coded.says c r at.0 at.2 in
    let is : place d (through false (cell c r)) ≡ i =
    place_is d grid false c r i z lt (ap (λ (b : Bool). let w : Passage = record { over = b; column = p.column; row = p.row } in w) under) in
    let o = place d (through true (cell c r)) in
    let long = coded.long in
    let above = (stands_at d grid true c r at.0 at.2).within in
    let leads = leads_within d grid i lt in
    let low = leads.0 in
    let high = leads.1 in
    let column : get_or e o 0 ≡ get_or (column_colours d e) c 0 = over_colour t d e grid coded c r at.1 at.2 ∙ sym (column_colours_at d e c at.1) in
    let y_below : get_or e o 0 < t.order = All-get_or (λ y. y < t.order) e o 0 (omega arith) coded.below in
    let z_below : after_colour d e i < t.order = All-get_or (λ y. y < t.order) e (get_or (edges_after d) i 0 - 1) 0 (omega arith) coded.below in
    meets_to t q (is_up d c) (is_rightward d r) (get_or e i 0) (get_or e o 0) (after_colour d e i) z_below y_below
    (ap (λ b. meets t b (get_or e i 0) (get_or e o 0) (after_colour d e i)) (sym (positive_is d c r))
    ∙ (ap (λ (k : ℕ). meets t (is_positive d c r) (get_or e k 0) (get_or e o 0) (after_colour d e k)) (sym is) ∙ says.under))
    ∙ ap (goes t (is_up d c) (is_rightward d r) (get_or e i 0)) column

-- so the colours follow the strands
pub turns_back : (t : Table) (d : Diagram) (e : List ℕ) → IsGrid d → IsQuandle t → IsCoded t d e → Turns t d (column_colours d e) e
turns_back t d e grid q coded i z lt =
    let p = get_or (passages d) i z in
    let x = get_or e i 0 in
    let side = goes t (is_up d p.column) (is_rightward d p.row) x (get_or (column_colours d e) p.column 0) in
    elim (cases_Bool p.over) [
      | inl over ↦ keeps_over t d e grid coded i z lt over ∙ ap (λ b. if b then x else side) (sym over)
      | inr under ↦ turns_under t d e grid q coded i z lt under ∙ ap (λ b. if b then x else side) (sym under)
    ]

-- the colour at place q of a component is that of its strand on the way from its start
on_the_way : (t : Table) (d : Diagram) (f e : List ℕ) → Turns t d f e → (s b q : ℕ) → IsPlaced d s b → 0 < length (passages_from d s)
    → q ≤ length (passages_from d s)
    → get_or e (b + turn (length (passages_from d s)) q) 0 ≡ fold (passing t d f) (get_or e b 0) (take q (passages_from d s))
on_the_way t d f e turns s b zero p some most =
    let same : b + turn (length (passages_from d s)) 0 ≡ b = omega (arith, turn_less (length (passages_from d s)) 0 some) in
    ap (λ (i : ℕ). get_or e i 0) same
on_the_way t d f e turns s b (suc q) p some most =
    let z : Passage = record { over = true; column = 0; row = 0 } in
    let ps = passages_from d s in
    let n = length ps in
    let inside = p.within in
    let here : get_or e (b + q) 0 ≡ fold (passing t d f) (get_or e b 0) (take q ps) =
    ap (λ (i : ℕ). get_or e (b + i) 0) (sym (turn_less n q (omega arith))) ∙ on_the_way t d f e turns s b q p some (omega arith) in
    let e1 : suc q ≡ q + 1 = omega arith in
    let next : get_or (edges_after d) (b + q) 0 - 1 ≡ b + turn n (suc q) = elim (cases_lt (suc q) n) [
      | inl less ↦ omega (arith, turn_less n (suc q) less, p.next q (omega arith))
      | inr whole ↦ omega (arith, turn_whole n (suc q) whole, p.last q (omega arith))
    ] in
    ap (λ (i : ℕ). get_or e i 0) (sym next)
    ∙ (turns (b + q) z (omega arith)
    ∙ (ap (passing t d f (get_or e (b + q) 0)) (p.passage q z (omega arith))
    ∙ (ap (λ y. passing t d f y (get_or ps q z)) here
    ∙ (sym (fold_more (passing t d f) (get_or e b 0) ps q z (omega arith)) ∙ ap (λ (k : ℕ). fold (passing t d f) (get_or e b 0) (take k ps)) (sym e1)))))

-- the colour of the j-th column of a component is that of its strand when it comes there
column_on_the_way : (t : Table) (d : Diagram) (e : List ℕ) → IsGrid d → IsQuandle t → IsCoded t d e → (s b j : ℕ) → IsPlaced d s b
    → 0 < length (passages_from d s) → j ≤ round_length d s
    → get_or (column_colours d e) (column_after d j s) 0 ≡ fold (passing t d (column_colours d e)) (get_or e b 0) (legs d s 0 j)
column_on_the_way t d e grid q coded s b j p some most =
    let ps = passages_from d s in
    let n = before d s j in
    let below = after_below d grid j s (start_below d s p.start) in
    let front : take n ps ≡ legs d s 0 j =
    ap (λ (ws : List Passage). take n ws) (round_parts d s j most) ∙ take_at (legs d s 0 j) (legs d s j (round_length d s - j)) n refl in
    column_colours_at d e (column_after d j s) below
    ∙ (ap (λ (k : ℕ). get_or e k 0) (begins_on_edge d grid s b j p most some)
    ∙ (on_the_way t d (column_colours d e) e (turns_back t d e grid q coded) s b n p some (before_most d s j most)
    ∙ ap (fold (passing t d (column_colours d e)) (get_or e b 0)) front))

-- following a column and the row of its O leads from its colour to that of the next column
along_back : (t : Table) (d : Diagram) (e : List ℕ) → IsGrid d → IsQuandle t → IsCoded t d e → (c : ℕ) → c < size d
    → fold (passing t d (column_colours d e)) (get_or (column_colours d e) c 0) (along d c) ≡ get_or (column_colours d e) (next_column d c) 0
along_back t d e grid q coded c lt =
    let f = column_colours d e in
    let s = start_of d grid c lt in
    let j = which_after d s.0 c s.2 in
    let p = placed d s.0 s.1 in
    let b = p.0 in
    let less = j.1 in
    let x = get_or e b 0 in
    let e1 : 0 + j.0 ≡ j.0 = omega arith in
    let leg : legs d s.0 0 (suc j.0) ≡ legs d s.0 0 j.0 ++ along d c =
    legs_more d s.0 0 j.0 ∙ ap (λ (k : ℕ). legs d s.0 0 j.0 ++ along d k) (ap (λ i. column_after d i s.0) e1 ∙ j.2) in
    let next : column_after d (suc j.0) s.0 ≡ next_column d c = ap (next_column d) j.2 in
    elim (cases_lt 0 (length (passages_from d s.0))) [
      | inl some ↦
          ap (λ y. fold (passing t d f) y (along d c))
          (ap (λ (k : ℕ). get_or f k 0) (sym j.2) ∙ column_on_the_way t d e grid q coded s.0 b j.0 p.1 some (omega arith))
          ∙ (sym (fold-append (passing t d f) x (legs d s.0 0 j.0) (along d c))
          ∙ (ap (fold (passing t d f) x) (sym leg)
          ∙ (sym (column_on_the_way t d e grid q coded s.0 b (suc j.0) p.1 some (omega arith)) ∙ ap (λ (k : ℕ). get_or f k 0) next)))
      | inr none ↦
          let at = place_in (loops d) s.0 (has_loop d s.0 s.1 (omega arith)) in
          let home : get_or (loops d) at.0 0 ≡ s.0 = at.2 0 in
          let m = before_most d s.0 (suc j.0) (omega arith) in
          let empty : along d c ≡ [] = nil_from_length (along d c) (omega (arith, ap length leg, length-append (legs d s.0 0 j.0) (along d c))) in
          let colour : (k : ℕ) → k < round_length d s.0 → get_or f (column_after d k s.0) 0 ≡ get_or e (length (passages d) + at.0) 0 =
          λ k within. column_colours_at d e (column_after d k s.0) (after_below d grid k s.0 (start_below d s.0 s.1))
          ∙ ap (λ (i : ℕ). get_or e i 0)
          (ap (λ (i : ℕ). place_where_column_begins d (column_after d k i)) (sym home)
          ∙ begins_on_loop d grid at.0 k at.1 (subst (λ i. k < round_length d i) (sym home) within)) in
          let round = round_is d grid s.0 (start_below d s.0 s.1) in
          let here : get_or f c 0 ≡ get_or e (length (passages d) + at.0) 0 = ap (λ (k : ℕ). get_or f k 0) (sym j.2) ∙ colour j.0 j.1 in
          let there : get_or f (next_column d c) 0 ≡ get_or e (length (passages d) + at.0) 0 = elim (cases_lt (suc j.0) (round_length d s.0)) [
            | inl more ↦ ap (λ (k : ℕ). get_or f k 0) (sym next) ∙ colour (suc j.0) more
            | inr last ↦
                let whole : suc j.0 ≡ round_length d s.0 = omega arith in
                let back : next_column d c ≡ column_after d 0 s.0 = sym next ∙ (ap (λ k. column_after d k s.0) whole ∙ round.back) in
                ap (λ (k : ℕ). get_or f k 0) back ∙ colour 0 round.some
          ] in
          ap (fold (passing t d f) (get_or f c 0)) empty ∙ (here ∙ sym there)
    ]

-- so the colours of the columns are a colouring
pub coloured_back : (t : Table) (d : Diagram) (e : List ℕ) → IsGrid d → IsQuandle t → IsCoded t d e → IsColouring t d (column_colours d e)
coloured_back t d e grid q coded =
    let f = column_colours d e in
    let colours = columns_coloured t d e grid q coded in
    let coloured = coloured_from t d f q colours in
    record {
      colours_are = colours;
      rows = λ r lt.
          let mark = column_mark d grid Ring r lt in
          let c = column_of Ring d r in
          let rows = as_met (is_up d c) (passed_over d c) in
          let leads : row_of Ring d c ≡ r = mark.row in
          let kept : fold (passing t d f) (get_or f c 0) (along_column d c) ≡ get_or f c 0 = column_keeps t d f c (get_or f c 0) rows in
          let whole =
          sym (ap (λ y. fold (passing t d f) y (along_row d (row_of Ring d c))) kept)
          ∙ (sym (fold-append (passing t d f) (get_or f c 0) (along_column d c) (along_row d (row_of Ring d c)))
          ∙ along_back t d e grid q coded c mark.inside) in
          row_closes t d f r grid coloured lt
          (λ p h.
          let under = under_along d c p (subst (λ s. Has (along_row d s) p) (sym leads) h) in
          let row : p.row < size d = subst (λ s. s < size d) (sym leads ∙ under.row) lt in
          column_inside d grid p.column p.row row under.crossing)
          (ap (λ s. fold (passing t d f) (get_or f c 0) (along_row d s)) (sym leads) ∙ (whole ∙ ap (λ s. get_or f (column_of Cross d s) 0) leads));
    }

-- and the code colouring is their edge colours
pub edges_back : (t : Table) (d : Diagram) (e : List ℕ) → IsGrid d → IsQuandle t → IsCoded t d e → edge_colours t d (column_colours d e) ≡ e
edges_back t d e grid q coded =
    let f = column_colours d e in
    let colouring = coloured_back t d e grid q coded in
    let z : Passage = record { over = true; column = 0; row = 0 } in
    let n = length (passages d) in
    let long = coded.long in
    ext_get_or 0 (edge_colours t d f) e (edges_length t d f ∙ sym coded.long)
    (λ i lt. elim (cases_lt i n) [
      | inl edge ↦
          let a = among d grid i edge in
          let ps = passages_from d a.s in
          let below = start_below d a.s a.component.start in
          let some : 0 < length ps = let less = a.within in omega arith in
          let first : get_or f a.s 0 ≡ get_or e a.b 0 = column_on_the_way t d e grid q coded a.s a.b 0 a.component some (omega arith) in
          edge_at t d f i z edge
          ∙ (ap (arriving t d f) (ap (λ (j : ℕ). get_or (passages d) j z) a.is ∙ a.component.passage a.k z a.within)
          ∙ (scans_at t d f (get_or f a.s 0) ps a.k z (round_follows t d f grid q colouring a.s below).scans a.within
          ∙ (ap (λ y. fold (passing t d f) y (take a.k ps)) first
          ∙ (sym (on_the_way t d f e (turns_back t d e grid q coded) a.s a.b a.k a.component some (let less = a.within in omega arith))
          ∙ ap (λ (j : ℕ). get_or e j 0) (ap (λ (k : ℕ). a.b + k) (turn_less (length ps) a.k a.within) ∙ sym a.is)))))
      | inr loop ↦
          let j = i - n in
          let whole : n + j ≡ i = omega arith in
          let within : j < length (loops d) = let m = edges_length t d f in omega arith in
          let s = get_or (loops d) j 0 in
          let below = start_below d s (loop_start d s (has_at (loops d) j 0 within)) in
          ap (λ (k : ℕ). get_or (edge_colours t d f) k 0) (sym whole)
          ∙ (loop_at t d f j within
          ∙ (column_colours_at d e s below
          ∙ ap (λ (k : ℕ). get_or e k 0) (begins_on_loop d grid j 0 within (round_is d grid s below).some ∙ whole)))
    ])
