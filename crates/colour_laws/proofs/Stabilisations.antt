-- A stabilisation, and a destabilisation, as bijections of colourings.
use Rattle.std.proofs.Common.{◌≡◌, ◌∙◌, ◌<◌, ◌-◌, ℕ, zero, suc, List, [], ◌∷◌, map, length, ap, ap₂, sym, refl, arith, inl, inr, subst, cond}
use Rattle.std.specs.Prelude.{Bool, true, false, ◌==◌, ◌⊎◌, ◌||◌}
use Rattle.std.specs.List.{All}
use Rattle.std.proofs.lemmas.List.{length-map}
use Rattle.std.proofs.lemmas.List.Elements.{All-cons}
use Rattle.std.proofs.lemmas.Bool.{cases_eq, cases_lt, cases_order, eq-eqb, ne_eqb, eqb-true, or_left, or_right, or_from}
use Rattle.grid_core.specs.Diagram.{Diagram, IsGrid}
use Rattle.colour_laws.proofs.ColumnLists.{Column, ends, relabel, corner_row, raised, short, long, with_block, IsMarkAt, IsColoured, IsInside}
use Rattle.quandle_core.specs.Quandle.{Table, IsQuandle}
use Rattle.colour_laws.proofs.ColouredColumns.{act, columns, xs_of, os_of, ys_of, IsColouringByColumns, AreInverse, IsMarked, doubled, without, bare}
use Rattle.colour_laws.proofs.ColouredColumns.{IsStabilised}
use Rattle.colour_laws.proofs.Rows.{row_at, row_walk, row_end, row_apart, on_end}
use Rattle.colour_laws.proofs.Stabilise.{two_rows, under, level_with, above, lifts, raised_corner, with_block_rows}
use Rattle.colour_laws.proofs.Tables.{act_acts}
use Rattle.colour_laws.proofs.Marked.{IsCarried, bijection_of, ys_of_columns, columns_marked, marked_columns, inside}
use Rattle.colour_laws.proofs.ColumnShifts.{bijection_same}
use Rattle.colour_laws.proofs.RowShifts.{same_columns, xs_of_relabel, os_of_relabel, ys_of_relabel}

-- both columns of the block have a mark in the corner's row
pub short_corner : (mark high : Bool) (r : ℕ) (c : Column) → ends (corner_row r high) (short mark high r c) ≡ true
short_corner true high r c =
    or_right (raised r high r == corner_row r high) (corner_row r high == corner_row r high) (eq-eqb (corner_row r high) (corner_row r high) refl)
short_corner false high r c =
    or_left (corner_row r high == corner_row r high) (raised r high r == corner_row r high) (eq-eqb (corner_row r high) (corner_row r high) refl)

pub long_corner : (mark high : Bool) (r : ℕ) (c : Column) → ends (corner_row r high) (long mark high r c) ≡ true
long_corner true high r c =
    or_left (corner_row r high == corner_row r high) (raised r high c.o == corner_row r high) (eq-eqb (corner_row r high) (corner_row r high) refl)
long_corner false high r c =
    or_right (raised r high c.x == corner_row r high) (corner_row r high == corner_row r high) (eq-eqb (corner_row r high) (corner_row r high) refl)

pub raised_apart : (high : Bool) (r x o : ℕ) → ((raised r high x == corner_row r high) || (raised r high o == corner_row r high)) ≡ false
raised_apart high r x o =
    or_from (raised r high x == corner_row r high) (raised r high o == corner_row r high)
    (ne_eqb (raised r high x) (corner_row r high) (raised_corner r high x)) (ne_eqb (raised r high o) (corner_row r high) (raised_corner r high o))

-- a pair of columns at the front, both with a mark in the row
pair_row : (p : Bool → ℕ → ℕ → ℕ) (r : ℕ) (a b : Column) (cs : List Column) → ends r a ≡ true → ends r b ≡ true → row_at p r r (a ∷ b ∷ cs) ≡ (a.y == b.y)
pair_row p r a b cs e f = row_end p r r a (b ∷ cs) e ∙ on_end p r r a.y b cs f

-- the new row
new_row : (p : Bool → ℕ → ℕ → ℕ) (mark right high : Bool) (r k : ℕ) (cs : List Column) → IsMarkAt mark r k cs
    → row_at p (corner_row r high) (corner_row r high) (with_block mark right high r k cs) ≡ true
new_row p mark right high r k [] is = absurd is
new_row p mark true high r zero (c ∷ cs) is =
    pair_row p (corner_row r high) (long mark high r c) (short mark high r c) (map (relabel (raised r high)) cs) (long_corner mark high r c)
    (short_corner mark high r c) ∙ eq-eqb c.y c.y refl
new_row p mark false high r zero (c ∷ cs) is =
    pair_row p (corner_row r high) (short mark high r c) (long mark high r c) (map (relabel (raised r high)) cs) (short_corner mark high r c)
    (long_corner mark high r c) ∙ eq-eqb c.y c.y refl
new_row p mark right high r (suc k) (c ∷ cs) is =
    row_apart p (corner_row r high) (corner_row r high) (relabel (raised r high) c) (with_block mark right high r k cs) (raised_apart high r c.x c.o)
    ∙ new_row p mark right high r k cs is

-- a column's ends hang on its marks alone
ends_same : (r : ℕ) (a b : Column) → a.x ≡ b.x → a.o ≡ b.o → ends r a ≡ ends r b
ends_same r a b e f = ap₂ (λ x o. (x == r) || (o == r)) e f

-- in a colouring of the new grid the block's two columns have one colour
front_pair : (p : Bool → ℕ → ℕ → ℕ) (r : ℕ) (u v : Column) (us : List Column) (ds : List Column) → ends r u ≡ true → ends r v ≡ true
    → xs_of ds ≡ u.x ∷ v.x ∷ xs_of us → os_of ds ≡ u.o ∷ v.o ∷ os_of us → row_at p r r ds ≡ true → doubled zero (without zero (ys_of ds)) ≡ ys_of ds
front_pair p r u v us [] eu ev ex eo row = absurd (cc)
front_pair p r u v us (a ∷ []) eu ev ex eo row =
    let no_more : [] ≡ v.x ∷ xs_of us = cc in
    absurd (cc)
front_pair p r u v us (a ∷ b ∷ ds) eu ev ex eo row =
    let ax : a.x ≡ u.x = cc in
    let bx : b.x ≡ v.x = cc in
    let ao : a.o ≡ u.o = cc in
    let bo : b.o ≡ v.o = cc in
    let same : a.y ≡ b.y = eqb-true a.y b.y (sym (pair_row p r a b ds (ends_same r a u ax ao ∙ eu) (ends_same r b v bx bo ∙ ev)) ∙ row) in
    ap (λ y. y ∷ b.y ∷ ys_of ds) (sym same)

common : (p : Bool → ℕ → ℕ → ℕ) (mark right high : Bool) (r k : ℕ) (cs ds : List Column) → IsMarkAt mark r k cs
    → xs_of ds ≡ xs_of (with_block mark right high r k cs) → os_of ds ≡ os_of (with_block mark right high r k cs)
    → row_at p (corner_row r high) (corner_row r high) ds ≡ true → doubled k (without k (ys_of ds)) ≡ ys_of ds
common p mark right high r k [] ds is ex eo row = absurd is
common p mark true high r zero (c ∷ cs) ds is ex eo row =
    front_pair p (corner_row r high) (long mark high r c) (short mark high r c) (map (relabel (raised r high)) cs) ds (long_corner mark high r c)
    (short_corner mark high r c) ex eo row
common p mark false high r zero (c ∷ cs) ds is ex eo row =
    front_pair p (corner_row r high) (short mark high r c) (long mark high r c) (map (relabel (raised r high)) cs) ds (short_corner mark high r c)
    (long_corner mark high r c) ex eo row
common p mark right high r (suc k) (c ∷ cs) [] is ex eo row = refl
common p mark right high r (suc k) (c ∷ cs) (d ∷ ds) is ex eo row =
    let dx : d.x ≡ raised r high c.x = cc in
    let do' : d.o ≡ raised r high c.o = cc in
    let ex' : xs_of ds ≡ xs_of (with_block mark right high r k cs) = cc in
    let eo' : os_of ds ≡ os_of (with_block mark right high r k cs) = cc in
    let far : ends (corner_row r high) d ≡ false = ends_same (corner_row r high) d (relabel (raised r high) c) dx do' ∙ raised_apart high r c.x c.o in
    ap (λ l. d.y ∷ l) (common p mark right high r k cs ds is ex' eo' (sym (row_apart p (corner_row r high) (corner_row r high) d ds far) ∙ row))

-- colours
pub with_block_ys : (mark right high : Bool) (r k : ℕ) (cs : List Column) → ys_of (with_block mark right high r k cs) ≡ doubled k (ys_of cs)
with_block_ys mark right high r k [] = refl
with_block_ys mark true high r zero (c ∷ cs) = ap (λ l. c.y ∷ c.y ∷ l) (ys_of_relabel (raised r high) cs)
with_block_ys mark false high r zero (c ∷ cs) = ap (λ l. c.y ∷ c.y ∷ l) (ys_of_relabel (raised r high) cs)
with_block_ys mark right high r (suc k) (c ∷ cs) = ap (λ l. c.y ∷ l) (with_block_ys mark right high r k cs)

without_doubled : (k : ℕ) (ys : List ℕ) → without k (doubled k ys) ≡ ys
without_doubled k [] = refl
without_doubled zero (y ∷ ys) = refl
without_doubled (suc k) (y ∷ ys) = ap (λ l. y ∷ l) (without_doubled k ys)

length_doubled : (k : ℕ) (ys : List ℕ) → k < length ys → length (doubled k ys) ≡ suc (length ys)
length_doubled k [] lt = absurd (omega (arith, lt))
length_doubled zero (y ∷ ys) lt = refl
length_doubled (suc k) (y ∷ ys) lt = ap suc (length_doubled k ys (omega (arith, lt)))

length_without : (k : ℕ) (ys : List ℕ) → k < length ys → suc (length (without k ys)) ≡ length ys
length_without k [] lt = absurd (omega (arith, lt))
length_without zero (y ∷ ys) lt = refl
length_without (suc k) (y ∷ ys) lt = ap suc (length_without k ys (omega (arith, lt)))

all_doubled : (b k : ℕ) (ys : List ℕ) → All (λ m. m < b) ys → All (λ m. m < b) (doubled k ys)
all_doubled b k [] all = all
all_doubled b zero (y ∷ ys) all = All-cons (λ m. m < b) y (y ∷ ys) (all 0 0 (omega arith)) all
all_doubled b (suc k) (y ∷ ys) all = All-cons (λ m. m < b) y (doubled k ys) (all 0 0 (omega arith)) (all_doubled b k ys (λ j d lt. all (suc j) d (omega arith)))

all_without : (b k : ℕ) (ys : List ℕ) → All (λ m. m < b) ys → All (λ m. m < b) (without k ys)
all_without b k [] all = all
all_without b zero (y ∷ ys) all = λ j d lt. all (suc j) d (omega arith)
all_without b (suc k) (y ∷ ys) all = All-cons (λ m. m < b) y (without k ys) (all 0 0 (omega arith)) (all_without b k ys (λ j d lt. all (suc j) d (omega arith)))

-- what the marks alone decide
pub same_marks : (mark right high : Bool) (r k : ℕ) (cs bs : List Column) → xs_of cs ≡ xs_of bs → os_of cs ≡ os_of bs
    → (xs_of (with_block mark right high r k cs) ≡ xs_of (with_block mark right high r k bs)) × (os_of (with_block mark right high r k cs) ≡ os_of
    (with_block mark right high r k bs))
same_marks mark right high r k [] [] ex eo = (refl, refl)
same_marks mark right high r k [] (b ∷ bs) ex eo = absurd (cc)
same_marks mark right high r k (a ∷ cs) [] ex eo = absurd (cc)
same_marks mark right high r (suc k) (a ∷ cs) (b ∷ bs) ex eo =
    let rest = same_marks mark right high r k cs bs (cc) (cc) in
    let hx : a.x ≡ b.x = cc in
    let ho : a.o ≡ b.o = cc in
    (ap₂ (λ x l. raised r high x ∷ l) hx rest.0, ap₂ (λ x l. raised r high x ∷ l) ho rest.1)
same_marks mark right high r zero (a ∷ cs) (b ∷ bs) ex eo =
    let hx : a.x ≡ b.x = cc in
    let ho : a.o ≡ b.o = cc in
    let tx : xs_of cs ≡ xs_of bs = cc in
    let to : os_of cs ≡ os_of bs = cc in
    let rx : xs_of (map (relabel (raised r high)) cs) ≡ xs_of (map (relabel (raised r high)) bs) = xs_of_relabel (raised r high) cs
    ∙ ap (map (raised r high)) tx ∙ sym (xs_of_relabel (raised r high) bs) in
    let ro : os_of (map (relabel (raised r high)) cs) ≡ os_of (map (relabel (raised r high)) bs) = os_of_relabel (raised r high) cs
    ∙ ap (map (raised r high)) to ∙ sym (os_of_relabel (raised r high) bs) in
    same_block mark right high r a b (map (relabel (raised r high)) cs) (map (relabel (raised r high)) bs) hx ho rx ro
  where
    same_block : (mark right high : Bool) (r : ℕ) (a b : Column) (cs bs : List Column) → a.x ≡ b.x → a.o ≡ b.o → xs_of cs ≡ xs_of bs → os_of cs ≡ os_of bs
        → (xs_of (cond right (long mark high r a ∷ short mark high r a ∷ cs) (short mark high r a ∷ long mark high r a ∷ cs)) ≡ xs_of
        (cond right (long mark high r b ∷ short mark high r b ∷ bs) (short mark high r b ∷ long mark high r b ∷ bs)))
        × (os_of (cond right (long mark high r a ∷ short mark high r a ∷ cs) (short mark high r a ∷ long mark high r a ∷ cs)) ≡ os_of
        (cond right (long mark high r b ∷ short mark high r b ∷ bs) (short mark high r b ∷ long mark high r b ∷ bs)))
    same_block true true high r a b cs bs hx ho rx ro =
        (ap (λ l. corner_row r high ∷ raised r high r ∷ l) rx, ap₂ (λ o l. raised r high o ∷ corner_row r high ∷ l) ho ro)
    same_block true false high r a b cs bs hx ho rx ro =
        (ap (λ l. raised r high r ∷ corner_row r high ∷ l) rx, ap₂ (λ o l. corner_row r high ∷ raised r high o ∷ l) ho ro)
    same_block false true high r a b cs bs hx ho rx ro =
        (ap₂ (λ x l. raised r high x ∷ corner_row r high ∷ l) hx rx, ap (λ l. corner_row r high ∷ raised r high r ∷ l) ro)
    same_block false false high r a b cs bs hx ho rx ro =
        (ap₂ (λ x l. corner_row r high ∷ raised r high x ∷ l) hx rx, ap (λ l. raised r high r ∷ corner_row r high ∷ l) ro)

pub same_place : (mark : Bool) (r k : ℕ) (cs bs : List Column) → xs_of cs ≡ xs_of bs → os_of cs ≡ os_of bs → IsMarkAt mark r k cs → IsMarkAt mark r k bs
same_place mark r k [] bs ex eo is = absurd is
same_place mark r k (a ∷ cs) [] ex eo is = absurd (cc)
same_place true r zero (a ∷ cs) (b ∷ bs) ex eo is =
    let hx : a.x ≡ b.x = cc in
    let ho : a.o ≡ b.o = cc in
    (sym hx ∙ is.0, λ e. is.1 (ho ∙ e))
same_place false r zero (a ∷ cs) (b ∷ bs) ex eo is =
    let hx : a.x ≡ b.x = cc in
    let ho : a.o ≡ b.o = cc in
    (sym ho ∙ is.0, λ e. is.1 (hx ∙ e))
same_place mark r (suc k) (a ∷ cs) (b ∷ bs) ex eo is = same_place mark r k cs bs (cc) (cc) is

-- the column is there, and the row
pub place_below : (mark : Bool) (r k n : ℕ) (cs : List Column) → IsInside n cs → IsMarkAt mark r k cs → (r < n) × (k < length cs)
place_below mark r k n [] within is = absurd is
place_below true r zero n (c ∷ cs) within is = (omega (arith, within.0, is.0), omega arith)
place_below false r zero n (c ∷ cs) within is = (omega (arith, within.1, is.0), omega arith)
place_below mark r (suc k) n (c ∷ cs) within is =
    let rest = place_below mark r k n cs within.2 is in
    (rest.0, omega (arith, rest.1))

-- each new row is the corner's or an old one
old_row : (r : ℕ) (high : Bool) (n s : ℕ) → r < n → s < suc n → (s ≡ corner_row r high) ⊎ ((u : ℕ) × (u < n) × (raised r high u ≡ s))
old_row r high n s lr ls = elim (cases_lt s r) [
  | inl l ↦ inr (s, omega arith, elim (lifts r high s) [ under a e ↦ e | level_with a ↦ absurd (omega arith) | above a e ↦ absurd (omega arith) ])
  | inr g ↦ elim (cases_lt (suc r) s) [
    | inl l ↦ inr (
      s - 1,
      omega arith,
      elim (lifts r high (s - 1)) [
        | under a e ↦ absurd (omega arith)
        | level_with a ↦ absurd (omega arith)
        | above a e ↦ omega (arith, e)
      ],
    )
    | inr g' ↦ elim (cases_eq s r) [
      | inl e ↦ elim (two_rows r high) [ inl t ↦ inr (r, lr, t.0 ∙ sym e) | inr t ↦ inl (e ∙ sym t.1) ]
      | inr m ↦
          let e : s ≡ suc r = elim (cases_order s r) [ inl e ↦ absurd (m e) | inr (inl l) ↦ absurd (omega arith) | inr (inr l) ↦ omega arith ] in
          elim (two_rows r high) [ inl t ↦ inl (e ∙ sym t.1) | inr t ↦ inr (r, lr, t.0 ∙ sym e) ]
    ]
  ]
]

raised_below : (r : ℕ) (high : Bool) (n s : ℕ) → r < n → s < n → raised r high s < suc n
raised_below r high n s lr ls = elim (lifts r high s) [
  | under a e ↦ omega (arith, e)
  | level_with a ↦ elim (two_rows r high) [ inl t ↦ omega (arith, t, ap (raised r high) a) | inr t ↦ omega (arith, t, ap (raised r high) a) ]
  | above a e ↦ omega (arith, e)
]

corner_below : (r : ℕ) (high : Bool) (n : ℕ) → r < n → corner_row r high < suc n
corner_below r high n lr = elim (two_rows r high) [ inl t ↦ omega (arith, t) | inr t ↦ omega (arith, t) ]

-- a bijection the other way round
pub bijection_flipped : (P Q : List ℕ → Type 0) (go come : List ℕ → List ℕ) → AreInverse P Q go come → AreInverse Q P come go
bijection_flipped P Q go come b = record { goes = b.comes; comes = b.goes; there = b.again; again = b.there }

-- a stabilisation: both columns of the block have the old column's colour
pub stabilised : (t : Table) → IsQuandle t → (g h : Diagram) → IsGrid g → IsGrid h → (mark right high : Bool) (r k : ℕ) → IsStabilised mark right high r k g h
    → AreInverse (IsColouringByColumns t g) (IsColouringByColumns t h) (doubled k) (without k)
stabilised t q g h grid grid' mark right high r k is =
    let acts = act_acts t q in
    let n : ℕ = length g.x in
    let blank : IsMarked g (bare g) = marked_columns g (map (λ m. 0) g.x) grid (length-map g.x (λ m. 0)) in
    let found = place_below mark r k (length g.x) (bare g) (inside g (bare g) grid blank) is.place in
    let bare_size : length (bare g) ≡ length g.x = sym (length-map (bare g) (λ (l : Column). l.x)) ∙ ap length blank.crosses in
    let k_lt : k < length g.x = omega (arith, found.1, bare_size) in
    let ys_size : (cs : List Column) → IsMarked g cs → length (ys_of cs) ≡ length g.x = λ cs marked.
    length-map cs (λ (l : Column). l.y) ∙ sym (length-map cs (λ (l : Column). l.x)) ∙ ap length marked.crosses in
    let placed : (cs : List Column) → IsMarked g cs → IsMarkAt mark r k cs = λ cs marked.
    same_place mark r k (bare g) cs (blank.crosses ∙ sym marked.crosses) (blank.rings ∙ sym marked.rings) is.place in
    let goes : (cs : List Column) → IsMarked g cs → IsMarked h (with_block mark right high r k cs) = λ cs marked.
    let same = same_marks mark right high r k cs (bare g) (marked.crosses ∙ sym blank.crosses) (marked.rings ∙ sym blank.rings) in
    record { crosses = same.0 ∙ sym is.crosses; rings = same.1 ∙ sym is.rings } in
    let size : length h.x ≡ suc (length g.x) =
    ap length (sym (goes (bare g) blank).crosses) ∙ length-map (with_block mark right high r k (bare g)) (λ (l : Column). l.x)
    ∙ sym (length-map (with_block mark right high r k (bare g)) (λ (l : Column). l.y)) ∙ ap length (with_block_ys mark right high r k (bare g))
    ∙ length_doubled k (ys_of (bare g)) (omega (arith, ys_size (bare g) blank, k_lt)) ∙ ap suc (ys_size (bare g) blank) in
    let rest_size : (ds : List Column) → IsMarked h ds → length (without k (ys_of ds)) ≡ length g.x = λ ds marked.
    let whole : length (ys_of ds) ≡ length h.x = length-map ds (λ (l : Column). l.y) ∙ sym (length-map ds (λ (l : Column). l.x)) ∙ ap length marked.crosses in
    omega (arith, length_without k (ys_of ds) (omega (arith, whole, size, k_lt)), whole, size) in
    let home : (ds : List Column) → IsMarked h ds → IsMarked g (columns g.x g.o (without k (ys_of ds))) = λ ds marked. marked_columns g
    (without k (ys_of ds)) grid (rest_size ds marked) in
    let corner_lt : corner_row r high < length h.x = omega (arith, corner_below r high (length g.x) found.0, size) in
    let again : (ds : List Column) → IsMarked h ds → IsColoured (act t) (length h.x) ds
    → with_block mark right high r k (columns g.x g.o (without k (ys_of ds))) ≡ ds = λ ds marked coloured.
    same_columns h (with_block mark right high r k (columns g.x g.o (without k (ys_of ds)))) ds
    (goes (columns g.x g.o (without k (ys_of ds))) (home ds marked)) marked
    (with_block_ys mark right high r k (columns g.x g.o (without k (ys_of ds)))
    ∙ ap (doubled k) (ys_of_columns g.x g.o (without k (ys_of ds)) grid.same (rest_size ds marked))
    ∙ common (act t) mark right high r k (bare g) ds is.place (marked.crosses ∙ is.crosses) (marked.rings ∙ is.rings)
    (sym (row_walk (act t) (corner_row r high) ds) ∙ coloured.walks (corner_row r high) corner_lt)) in
    let carried : IsCarried t g h (with_block mark right high r k) (λ ds. columns g.x g.o (without k (ys_of ds))) = record {
      goes = goes;
      comes = home;
      walks = λ cs marked coloured s lt. row_walk (act t) s (with_block mark right high r k cs)
          ∙ elim (old_row r high (length g.x) s found.0 (omega (arith, lt, size))) [
            | inl e ↦ subst (λ (u : ℕ). row_at (act t) u u (with_block mark right high r k cs) ≡ true) (sym e)
                (new_row (act t) mark right high r k cs (placed cs marked))
            | inr w ↦ subst (λ (u : ℕ). row_at (act t) u u (with_block mark right high r k cs) ≡ true) w.2
                ((with_block_rows (act t) acts mark right high r k cs (placed cs marked) w.0).row ∙ sym (row_walk (act t) w.0 cs) ∙ coloured.walks w.0 w.1)
          ];
      walks_back = λ ds marked coloured s lt.
          let cs = columns g.x g.o (without k (ys_of ds)) in
          row_walk (act t) s (columns g.x g.o (without k (ys_of ds)))
          ∙ sym (with_block_rows (act t) acts mark right high r k (columns g.x g.o (without k (ys_of ds)))
          (placed (columns g.x g.o (without k (ys_of ds))) (home ds marked)) s).row
          ∙ ap (row_at (act t) (raised r high s) (raised r high s)) (again ds marked coloured)
          ∙ sym (row_walk (act t) (raised r high s) ds) ∙ coloured.walks (raised r high s) (omega (arith, raised_below r high (length g.x) s found.0 lt, size));
      below = λ cs marked all. subst (All (λ y. y < t.order)) (sym (with_block_ys mark right high r k cs)) (all_doubled t.order k (ys_of cs) all);
      below_back = λ ds marked all. subst (All (λ y. y < t.order)) (sym (ys_of_columns g.x g.o (without k (ys_of ds)) grid.same (rest_size ds marked)))
          (all_without t.order k (ys_of ds) all);
      there = λ cs marked coloured.
          ap (λ l. columns g.x g.o (without k l)) (with_block_ys mark right high r k cs) ∙ ap (columns g.x g.o) (without_doubled k (ys_of cs))
          ∙ columns_marked g cs marked;
      again = again;
    } in
    bijection_same (IsColouringByColumns t g) (IsColouringByColumns t h) (λ c. ys_of (with_block mark right high r k (columns g.x g.o c)))
    (λ d. ys_of (columns g.x g.o (without k (ys_of (columns h.x h.o d))))) (doubled k) (without k)
    (bijection_of t g h (with_block mark right high r k) (λ ds. columns g.x g.o (without k (ys_of ds))) grid grid' carried)
    (λ c colouring. with_block_ys mark right high r k (columns g.x g.o c) ∙ ap (doubled k) (ys_of_columns g.x g.o c grid.same colouring.size))
    (λ d colouring.
    let marked : IsMarked h (columns h.x h.o d) = marked_columns h d grid' colouring.size in
    ys_of_columns g.x g.o (without k (ys_of (columns h.x h.o d))) grid.same (rest_size (columns h.x h.o d) marked)
    ∙ ap (without k) (ys_of_columns h.x h.o d grid'.same colouring.size))

-- a destabilisation undoes it
pub destabilised : (t : Table) → IsQuandle t → (g h : Diagram) → IsGrid g → IsGrid h → (mark right high : Bool) (r k : ℕ) → IsStabilised mark right high r k h g
    → AreInverse (IsColouringByColumns t g) (IsColouringByColumns t h) (without k) (doubled k)
destabilised t q g h grid grid' mark right high r k is =
    bijection_flipped (IsColouringByColumns t h) (IsColouringByColumns t g) (doubled k) (without k) (stabilised t q h g grid' grid mark right high r k is)
