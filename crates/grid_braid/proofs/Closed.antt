-- A row closes in a colouring exactly where the strand that it moves arrives in the colour of its new column.
use Rattle.std.proofs.Common.{◌≡◌, ◌<◌, ◌≤◌, ◌+◌, ◌-◌, ◌∙◌, inl, inr, ℕ, List, All, length, get_or, map, fold, reverse, arith, sym, ap, subst}
use Rattle.std.proofs.lemmas.List.Elements.{All-weaker}
use Rattle.grid_core.specs.declared.mark.Kind.TheVariants.{Cross, Ring}
use Rattle.grid_core.specs.declared.span.Span.{Span}
use Rattle.grid_core.specs.Diagram.{Diagram, IsGrid, size}
use Rattle.grid_core.specs.Parts.{column_of, ends}
use Rattle.quandle_core.specs.Quandle.{Table, IsQuandle, over, back}
use Rattle.colour_rows.specs.Walk.{walk}
use Rattle.grid_core.proofs.Ends.{has_ends}
use Rattle.colour_rows.proofs.Walks.{Undoes, undo_there, undo_back, walk_stays, fold_keeps}
use Rattle.grid_braid.specs.Strands.{is_strand, strands_between}
use Rattle.grid_braid.specs.Sweep.{moved_colour}
use Rattle.grid_braid.proofs.Ranges.{all_passing, reversed_all}
use Rattle.grid_braid.proofs.Rows.{has_row, row_moves, ends_left, ends_right, moved_left, moved_right}
use Rattle.grid_braid.proofs.Turns.{turn, turn_respects, colour_below}
use Rattle.grid_braid.proofs.Walked.{Turned, walk_turned, turned_below}

abbrev below : Table → ℕ → Type 0
below t x = x < t.order

-- ◁ and ▷ undo each other under each colour
undoes : (t : Table) → IsQuandle t → (zs : List ℕ) → All (below t) zs → All (Undoes (below t) (back t) (over t)) zs
undoes t q zs all =
    All-weaker (below t) (Undoes (below t) (back t) (over t))
    (λ z at. record {
      to = λ x by_x. q.back_within x z by_x at;
      fro = λ x by_x. q.within x z by_x at;
      there = λ x by_x. q.over_back x z by_x at;
      back = λ x by_x. q.back_over x z by_x at;
    })
    zs all

over_stays : (t : Table) → IsQuandle t → (zs : List ℕ) → All (below t) zs → (x : ℕ) → below t x → below t (fold (over t) x zs)
over_stays t q zs all x at = fold_keeps (over t) (below t) zs
    (All-weaker (below t) (λ z. (y : ℕ) → below t y → below t (over t y z)) (λ z by_z y by_y. q.within y z by_y by_z) zs all) x at

back_stays : (t : Table) → IsQuandle t → (zs : List ℕ) → All (below t) zs → (x : ℕ) → below t x → below t (fold (back t) x zs)
back_stays t q zs all x at = fold_keeps (back t) (below t) zs
    (All-weaker (below t) (λ z. (y : ℕ) → below t y → below t (back t y z)) (λ z by_z y by_y. q.back_within y z by_y by_z) zs all) x at

-- the colours between the ends of a row
pub between_below : (t : Table) (d : Diagram) → IsGrid d → (e : ℕ → ℕ) → ((c : ℕ) → c < size d → e c < t.order) → (r : ℕ) → r < size d
    → All (below t) (map e (strands_between d r))
between_below t d grid e e_below r lt =
    let row = has_ends d grid r lt in
    let ordered = row.ordered in
    let within = row.within in
    all_passing (is_strand d r) (below t) e ((ends d r).low + 1) ((ends d r).high - ((ends d r).low + 1)) (λ c least most at. e_below c (omega arith))

pub moved_below : (t : Table) → IsQuandle t → (d : Diagram) → IsGrid d → (e : ℕ → ℕ) → ((c : ℕ) → c < size d → e c < t.order) → (r : ℕ) → r < size d
    → moved_colour t d e r < t.order
moved_below t q d grid e e_below r lt =
    let zs = map e (strands_between d r) in
    let all = between_below t d grid e e_below r lt in
    let row = has_row d grid r lt in
    let start = e_below (column_of Ring d r) row.ring_inside in
    elim (row_moves d grid r lt) [
      | inl m ↦ subst (below t) (sym (moved_left t d e r m.ordered))
          (over_stays t q (reverse zs) (reversed_all (below t) zs all) (e (column_of Ring d r)) start)
      | inr m ↦ subst (below t) (sym (moved_right t d e r m.ordered)) (back_stays t q zs all (e (column_of Ring d r)) start)
    ]

-- said of the colours of the strands
strands_close : (t : Table) → IsQuandle t → (d : Diagram) → IsGrid d → (e : ℕ → ℕ) → ((c : ℕ) → c < size d → e c < t.order) → (r : ℕ) → r < size d
    → fold (back t) (e (ends d r).low) (map e (strands_between d r)) ≡ e (ends d r).high → moved_colour t d e r ≡ e (column_of Cross d r)
strands_close t q d grid e e_below r lt closes =
    let zs = map e (strands_between d r) in
    let all = between_below t d grid e e_below r lt in
    let row = has_row d grid r lt in
    elim (row_moves d grid r lt) [
      | inl m ↦
          let is = ends_left d r m.ordered in
          moved_left t d e r m.ordered
          ∙ (ap (λ (x : ℕ). fold (over t) x (reverse zs)) (sym
          (ap (λ (s : Span). fold (back t) (e s.low) zs) (sym is) ∙ (closes ∙ ap (λ (s : Span). e s.high) is)))
          ∙ undo_there (below t) (back t) (over t) zs (undoes t q zs all) (e (column_of Cross d r)) (e_below (column_of Cross d r) row.cross_inside))
      | inr m ↦
          let is = ends_right d r (let less = m.ordered in omega arith) in
          moved_right t d e r m.ordered
          ∙ (ap (λ (s : Span). fold (back t) (e s.low) zs) (sym is) ∙ (closes ∙ ap (λ (s : Span). e s.high) is))
    ]

strands_closed : (t : Table) → IsQuandle t → (d : Diagram) → IsGrid d → (e : ℕ → ℕ) → ((c : ℕ) → c < size d → e c < t.order) → (r : ℕ) → r < size d
    → moved_colour t d e r ≡ e (column_of Cross d r) → fold (back t) (e (ends d r).low) (map e (strands_between d r)) ≡ e (ends d r).high
strands_closed t q d grid e e_below r lt arrives =
    let zs = map e (strands_between d r) in
    let all = between_below t d grid e e_below r lt in
    let row = has_row d grid r lt in
    elim (row_moves d grid r lt) [
      | inl m ↦
          let is = ends_left d r m.ordered in
          ap (λ (s : Span). fold (back t) (e s.low) zs) is
          ∙ (ap (λ (x : ℕ). fold (back t) x zs) (sym (sym (moved_left t d e r m.ordered) ∙ arrives))
          ∙ (undo_back (below t) (back t) (over t) zs (undoes t q zs all) (e (column_of Ring d r)) (e_below (column_of Ring d r) row.ring_inside)
          ∙ sym (ap (λ (s : Span). e s.high) is)))
      | inr m ↦
          let is = ends_right d r (let less = m.ordered in omega arith) in
          ap (λ (s : Span). fold (back t) (e s.low) zs) is
          ∙ (sym (moved_right t d e r m.ordered) ∙ (arrives ∙ sym (ap (λ (s : Span). e s.high) is)))
    ]

-- and of the walk
pub row_arrives : (t : Table) → IsQuandle t → (d : Diagram) → IsGrid d → (f : List ℕ) → All (below t) f → (e : ℕ → ℕ) → Turned t d f e → (r : ℕ)
    → r < size d → walk t d f r ≡ get_or f (ends d r).high 0 → moved_colour t d e r ≡ e (column_of Cross d r)
row_arrives t q d grid f f_below e turned r lt closes =
    let hi = (ends d r).high in
    let row = has_ends d grid r lt in
    strands_close t q d grid e (turned_below t q d f f_below e turned) r lt
    (sym (walk_turned t q d grid f f_below e turned r lt) ∙ (ap (turn t d f hi) closes ∙ sym (turned hi row.within)))

pub row_closes : (t : Table) → IsQuandle t → (d : Diagram) → IsGrid d → (f : List ℕ) → size d ≤ length f → All (below t) f → (e : ℕ → ℕ)
    → Turned t d f e → (r : ℕ) → r < size d → moved_colour t d e r ≡ e (column_of Cross d r) → walk t d f r ≡ get_or f (ends d r).high 0
row_closes t q d grid f long f_below e turned r lt arrives =
    let hi = (ends d r).high in
    let row = has_ends d grid r lt in
    (turn_respects t q d f f_below hi).single (walk t d f r) (get_or f hi 0) (walk_stays t d f r q row long f_below) (colour_below t q f f_below hi)
    (walk_turned t q d grid f f_below e turned r lt
    ∙ (strands_closed t q d grid e (turned_below t q d f f_below e turned) r lt arrives ∙ turned hi row.within))
