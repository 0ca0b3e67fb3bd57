-- The facts under the table of carried colours, over the definitions.
use Rattle.std.proofs.Common.{◌≡◌, ◌∙◌, ◌<◌, ◌≤◌, ◌+◌, ◌++◌, ℕ, zero, suc, List, [], ◌∷◌, length, drop, fold, ap, ap₂, sym, refl, subst, arith, inl, inr, cond}
use Rattle.std.proofs.Common.{All}
use Rattle.std.specs.Prelude.{Bool, true, false, slice_index, nat_lt, nat_le, ◌&&◌, filter}
use Rattle.std.specs.List.{range_with_len}
use Rattle.std.proofs.Math.Bool.{not}
use Rattle.std.proofs.lemmas.List.{drop_all}
use Rattle.std.proofs.lemmas.List.Elements.{All-head, All-tail}
use Rattle.std.proofs.lemmas.Bool.{cases_lt, lt-ltb, le-ltb, le-leb, lt-leb, and_from, and_left, and_right, cond-true, cond-false}
use Rattle.grid_core.specs.Diagram.{Diagram, IsGrid, size}
use Rattle.grid_core.specs.Span.{span}
use Rattle.quandle_core.specs.Quandle.{Table, IsQuandle, over, back}
use Rattle.colour_rows.specs.Walk.{passed_rightward}
use Rattle.colour_rows.specs.Walk.{under}
use Rattle.colour_rows.specs.Colouring.{IsColouring}
use Rattle.grid_core.proofs.Ends.{span_low, span_high}
use Rattle.colour_laws.specs.Chain.{follow}
use Rattle.colour_laws.specs.Level.{covers_height, across_height}
use Rattle.colour_laws.proofs.ColumnLists.{crossed, crosses, level}
use Rattle.colour_laws.proofs.ColumnLists as lists
use Rattle.colour_laws.proofs.ColouredColumns.{act, columns}
use Rattle.colour_laws.proofs.Chains.{slide}
use Rattle.colour_laws.proofs.Level.{level_holds}
use Rattle.colour_laws.proofs.Tables.{act_acts, act_inside, act_below}
use Rattle.colour_laws.proofs.Marked.{coloured_of, marked_columns}
use Rattle.colour_laws.proofs.ByIndex.{coloured_at, columns_from, columns_next}
use Rattle.colour_laws.proofs.Walks.{HasColours, colour_below, by_columns, chain_step}

forth_same : (t : Table) (up : Bool) (a x : ℕ) → a < t.order → x < t.order → passed_rightward t up x a ≡ act t up a x
forth_same t true a x la lx = sym (act_inside t true a x la lx)
forth_same t false a x la lx = sym (act_inside t false a x la lx)

-- a chain of colours, in both words
follow_same : (t : Table) → IsQuandle t → (chain : List (Bool × ℕ)) → All (λ (column : Bool × ℕ). column.1 < t.order) chain → (x : ℕ) → x < t.order
    → (follow t chain x ≡ lists.follow (act t) chain x) × (follow t chain x < t.order)
follow_same t q [] all x lx = (refl, lx)
follow_same t q (link ∷ chain) all x lx =
    let la : link.1 < t.order = All-head (λ (column : Bool × ℕ). column.1 < t.order) link chain all in
    let step = forth_same t link.0 link.1 x la lx in
    let rest = follow_same t q chain (All-tail (λ (column : Bool × ℕ). column.1 < t.order) link chain all) (passed_rightward t link.0 x link.1)
    (subst (λ (z : ℕ). z < t.order) (sym step) (act_below t q link.0 link.1 x lx)) in
    (rest.0 ∙ ap (lists.follow (act t) chain) step, rest.1)

pub sliding : (t : Table) → IsQuandle t → (up : Bool) (chain : List (Bool × ℕ)) (a x : ℕ) → All (λ (column : Bool × ℕ). column.1 < t.order) chain → a < t.order
    → x < t.order
    → follow t chain (passed_rightward t up x a) ≡ passed_rightward t up (follow t chain x) (follow t chain a)
sliding t q up chain a x all la lx =
    let step = forth_same t up a x la lx in
    let of_a = follow_same t q chain all a la in
    let of_x = follow_same t q chain all x lx in
    let of_both = follow_same t q chain all (passed_rightward t up x a) (subst (λ (z : ℕ). z < t.order) (sym step) (act_below t q up a x lx)) in
    of_both.0 ∙ ap (lists.follow (act t) chain) step ∙ slide (act t) (act_acts t q) up chain a (lists.follow (act t) chain a) refl x
    ∙ ap₂ (λ b y. act t up b y) (sym of_a.0) (sym of_x.0) ∙ sym (forth_same t up (follow t chain a) (follow t chain x) of_a.1 of_x.1)

follow-append : (t : Table) (one two : List (Bool × ℕ)) (x : ℕ) → follow t (one ++ two) x ≡ follow t two (follow t one x)
follow-append t [] two x = refl
follow-append t (link ∷ one) two x = follow-append t one two (passed_rightward t link.0 x link.1)

undone : (t : Table) → IsQuandle t → (up : Bool) (a x : ℕ) → a < t.order → x < t.order → passed_rightward t (not up) (passed_rightward t up x a) a ≡ x
undone t q true a x la lx = q.over_back x a lx la
undone t q false a x la lx = q.back_over x a lx la

pub cancelling : (t : Table) → IsQuandle t → (up : Bool) (chain : List (Bool × ℕ)) (a x : ℕ) → All (λ (column : Bool × ℕ). column.1 < t.order) chain
    → a < t.order → x < t.order
    → follow t ((up, a) ∷ chain ++ (not up, follow t chain a) ∷ []) x ≡ follow t chain x
cancelling t q up chain a x all la lx =
    follow-append t chain ((not up, follow t chain a) ∷ []) (passed_rightward t up x a)
    ∙ ap (λ y. passed_rightward t (not up) y (follow t chain a)) (sliding t q up chain a x all la lx)
    ∙ undone t q up (follow t chain a) (follow t chain x) (follow_same t q chain all a la).1 (follow_same t q chain all x lx).1

-- what a column does at a height, in both words
crossed_same : (t : Table) (x o h y a : ℕ) → y < t.order → a < t.order
    → crossed (act t) (nat_lt x h) (nat_lt o h) y a ≡ cond (nat_lt (span x o).low h && nat_le h (span x o).high) (cond (nat_lt x o) (back t a y) (over t a y)) a
crossed_same t x o h y a ly la =
    let low = span_low x o in
    let high = span_high x o in
    let passes : ℕ = cond (nat_lt x o) (back t a y) (over t a y) in
    elim (cases_lt x h) [
      | inl lx ↦ elim (cases_lt o h) [
        | inl lo ↦
            ap₂ (λ b c. crossed (act t) b c y a) (lt-ltb x h lx) (lt-ltb o h lo)
            ∙ sym (cond-false (nat_lt (span x o).low h && nat_le h (span x o).high) (cond (nat_lt x o) (back t a y) (over t a y)) a
            (and_right (nat_lt (span x o).low h) (nat_le h (span x o).high) (lt-leb h (span x o).high (omega arith))))
        | inr go ↦
            ap₂ (λ b c. crossed (act t) b c y a) (lt-ltb x h lx) (le-ltb o h go) ∙ act_inside t true y a ly la
            ∙ sym (cond-true (nat_lt (span x o).low h && nat_le h (span x o).high) (cond (nat_lt x o) (back t a y) (over t a y)) a
            (and_from (nat_lt (span x o).low h) (nat_le h (span x o).high) (lt-ltb (span x o).low h (omega arith)) (le-leb h (span x o).high (omega arith)))
            ∙ cond-true (nat_lt x o) (back t a y) (over t a y) (lt-ltb x o (omega arith)))
      ]
      | inr gx ↦ elim (cases_lt o h) [
        | inl lo ↦
            ap₂ (λ b c. crossed (act t) b c y a) (le-ltb x h gx) (lt-ltb o h lo) ∙ act_inside t false y a ly la
            ∙ sym (cond-true (nat_lt (span x o).low h && nat_le h (span x o).high) (cond (nat_lt x o) (back t a y) (over t a y)) a
            (and_from (nat_lt (span x o).low h) (nat_le h (span x o).high) (lt-ltb (span x o).low h (omega arith)) (le-leb h (span x o).high (omega arith)))
            ∙ cond-false (nat_lt x o) (back t a y) (over t a y) (le-ltb x o (omega arith)))
        | inr go ↦
            ap₂ (λ b c. crossed (act t) b c y a) (le-ltb x h gx) (le-ltb o h go)
            ∙ sym (cond-false (nat_lt (span x o).low h && nat_le h (span x o).high) (cond (nat_lt x o) (back t a y) (over t a y)) a
            (and_left (nat_lt (span x o).low h) (nat_le h (span x o).high) (le-ltb (span x o).low h (omega arith))))
      ]
    ]

pub crossed_below : (t : Table) → IsQuandle t → (l m : Bool) (y a : ℕ) → a < t.order → crossed (act t) l m y a < t.order
crossed_below t q true true y a la = la
crossed_below t q true false y a la = act_below t q true y a la
crossed_below t q false true y a la = act_below t q false y a la
crossed_below t q false false y a la = la

-- all columns from a place on
level_same : (t : Table) → IsQuandle t → (d : Diagram) (f : List ℕ) → HasColours t d f → (h m i a : ℕ) → i + m ≡ length d.x → a < t.order
    → level (act t) h (columns_from i d.x d.o f) a ≡ fold (under t d f) a (filter (covers_height d h) (range_with_len i m))
level_same t q d f has h zero i a e la = ap (λ l. level (act t) h (columns l (drop i d.o) (drop i f)) a) (drop_all i d.x (omega (arith, e)))
level_same t q d f has h (suc m) i a e la =
    let lt : i < length d.x = omega (arith, e) in
    let same = crossed_same t (slice_index d.x i) (slice_index d.o i) h (slice_index f i) a (colour_below t d f has i lt) la in
    ap (λ l. level (act t) h l a) (columns_next i d.x d.o f has.rings has.size lt)
    ∙ level_same t q d f has h m (suc i) (crosses (act t) h (coloured_at i d.x d.o f) a) (omega (arith, e))
    (crossed_below t q (nat_lt (slice_index d.x i) h) (nat_lt (slice_index d.o i) h) (slice_index f i) a la)
    ∙ ap₂ (λ z j. fold (under t d f) z (filter (covers_height d h) (range_with_len j m))) same (let k : suc i ≡ i + 1 = omega arith in k)
    ∙ sym (chain_step t d f i a (filter (covers_height d h) (range_with_len (i + 1) m)) (covers_height d h i))

pub level_fact : (t : Table) → IsQuandle t → (d : Diagram) → IsGrid d → (f : List ℕ) → IsColouring t d f → (h x : ℕ) → h ≤ size d → x < t.order
    → across_height t d f h x ≡ x
level_fact t q d grid f colouring h x le lx =
    let old = by_columns t q d grid f colouring in
    sym (level_same t q d f (record { rings = grid.same; size = old.size; below = old.below }) h (size d) 0 x (omega arith) lx)
    ∙ level_holds (act t) (act_acts t q) (length d.x) (columns d.x d.o f)
    (coloured_of (act t) d (columns d.x d.o f) grid (marked_columns d f grid old.size) old.walks) h le x
