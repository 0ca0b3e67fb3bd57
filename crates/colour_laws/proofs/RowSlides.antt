-- Slides of neighbouring rows that share a column.
use Rattle.std.proofs.Common.{◌≡◌, ◌∙◌, ◌<◌, ◌≤◌, ◌+◌, ℕ, suc, List, [], ◌∷◌, map, length, ap, ap₂, sym, refl, arith, inl, inr, subst}
use Rattle.std.specs.Prelude.{Bool, true, false, nat_lt, ◌==◌}
use Rattle.std.specs.List.{All}
use Rattle.std.proofs.lemmas.List.{length-map}
use Rattle.std.proofs.lemmas.Bool.{cases_Bool, cases_eq, eq-eqb, eqb-true, false≢true}
use Rattle.grid_core.specs.Diagram.{Diagram, IsGrid}
use Rattle.colour_laws.proofs.ColumnLists.{Acts, Column, ends, crossed, crosses, walk, xs_in, os_in, relabel, swapped, IsColoured}
use Rattle.quandle_core.specs.Quandle.{Table, IsQuandle}
use Rattle.colour_laws.proofs.ColouredColumns.{act, columns, xs_of, os_of, ys_of, IsColouringByColumns, AreInverse, IsMarked, HasBoth, bare}
use Rattle.colour_laws.proofs.Rows.{on_at, row_at, row_end, row_apart, on_end, on_apart, row_walk, row_above, crosses_above, ends_cross, ends_ring, ends_apart}
use Rattle.colour_laws.proofs.Rows.{cross, ring, apart, side}
use Rattle.colour_laws.proofs.Level.{xs_here, xs_not_here, os_here, os_not_here}
use Rattle.colour_laws.proofs.Relabel.{ends_relabel, row_relabel, eq_lower, eq_upper, eq_other, lt_lower, lt_upper, lt_other}
use Rattle.colour_laws.proofs.DroppedColumns.{same_tests}
use Rattle.colour_laws.proofs.Stabilise.{crossed_meets}
use Rattle.colour_laws.proofs.Tables.{act_acts}
use Rattle.colour_laws.proofs.Marked.{IsCarried, bijection_of, ys_of_columns, marked_columns}
use Rattle.colour_laws.proofs.ColumnShifts.{bijection_same}
use Rattle.colour_laws.proofs.RowShifts.{xs_of_relabel, os_of_relabel, ys_of_relabel}
use Rattle.colour_laws.proofs.RowExchanges.{map_twice, columns_twice}

-- how many marks stand in a row
abbrev pub marks : ℕ → List Column → ℕ
marks r cs = xs_in r cs + os_in r cs

pub marks_end : (r : ℕ) (c : Column) (cs : List Column) → ends r c ≡ true → suc (marks r cs) ≤ marks r (c ∷ cs)
marks_end r c cs e = elim (side r c) [
  | cross f ↦ elim (cases_eq c.o r) [
    | inl k ↦ omega (arith, xs_here r c cs f, os_here r c cs k)
    | inr k ↦ omega (arith, xs_here r c cs f, os_not_here r c cs k)
  ]
  | ring n f ↦ omega (arith, xs_not_here r c cs n, os_here r c cs f)
  | apart n m ↦ absurd (false≢true (sym (ends_apart r c n m) ∙ e))
]

pub marks_rest : (r : ℕ) (c : Column) (cs : List Column) → marks r cs ≤ marks r (c ∷ cs)
marks_rest r c cs = elim (side r c) [
  | cross f ↦ elim (cases_eq c.o r) [
    | inl k ↦ omega (arith, xs_here r c cs f, os_here r c cs k)
    | inr k ↦ omega (arith, xs_here r c cs f, os_not_here r c cs k)
  ]
  | ring n f ↦ omega (arith, xs_not_here r c cs n, os_here r c cs f)
  | apart n m ↦ omega (arith, xs_not_here r c cs n, os_not_here r c cs m)
]

pub marks_both : (r s : ℕ) (cs : List Column) → HasBoth r s cs → (1 ≤ marks r cs) × (1 ≤ marks s cs)
marks_both r s [] both = absurd both
marks_both r s (c ∷ cs) both = elim both [
  | inl h ↦ (omega (arith, marks_end r c cs h.0), omega (arith, marks_end s c cs h.1))
  | inr h ↦
      let more = marks_both r s cs h in
      (omega (arith, more.0, marks_rest r c cs), omega (arith, more.1, marks_rest s c cs))
]

-- each column with a mark in row s has one in row r
abbrev pub IsShared : ℕ → ℕ → List Column → Type 0
IsShared r s [] = Unit {0}
IsShared r s (c ∷ cs) = (ends s c ≡ true → ends r c ≡ true) × IsShared r s cs

pub shared_none : (r s : ℕ) (cs : List Column) → marks s cs ≤ 0 → IsShared r s cs
shared_none r s [] none = tt
shared_none r s (c ∷ cs) none = (λ e. absurd (omega (arith, marks_end s c cs e, none)), shared_none r s cs (omega (arith, marks_rest s c cs, none)))

pub shared_one : (r s : ℕ) (cs : List Column) → marks s cs ≤ 1 → HasBoth r s cs → IsShared r s cs
shared_one r s [] one both = tt
shared_one r s (c ∷ cs) one both = elim both [
  | inl h ↦ (λ e. h.0, shared_none r s cs (omega (arith, marks_end s c cs h.1, one)))
  | inr h ↦ (λ e. absurd (omega (arith, marks_end s c cs e, one, marks_both r s cs h)), shared_one r s cs (omega (arith, marks_rest s c cs, one)) h)
]

-- a column without a mark in row s
pub above_apart : (p : Bool → ℕ → ℕ → ℕ) (s : ℕ) (c : Column) (a : ℕ) → ends s c ≡ false → crosses p (suc s) c a ≡ crosses p s c a
above_apart p s c a e = elim (side s c) [
  | cross f ↦ absurd (false≢true (sym e ∙ ends_cross s c f))
  | ring n f ↦ absurd (false≢true (sym e ∙ ends_ring s c f))
  | apart n m ↦ crosses_above p s c a n m
]

-- row r does not pass a column with a mark in row s: the same walk below row s and above it
shared_on : (p : Bool → ℕ → ℕ → ℕ) (r s : ℕ) (cs : List Column) → IsShared r s cs → (a : ℕ) → on_at p (suc s) r a cs ≡ on_at p s r a cs
shared_on p r s [] shared a = refl
shared_on p r s (c ∷ cs) shared a = elim (cases_Bool (ends r c)) [
  | inl e ↦ on_end p (suc s) r a c cs e ∙ sym (on_end p s r a c cs e)
  | inr e ↦ elim (cases_Bool (ends s c)) [
    | inl f ↦ absurd (false≢true (sym e ∙ shared.0 f))
    | inr f ↦ on_apart p (suc s) r a c cs e ∙ ap (λ b. on_at p (suc s) r b cs) (above_apart p s c a f) ∙ shared_on p r s cs shared.1 (crosses p s c a)
        ∙ sym (on_apart p s r a c cs e)
  ]
]

shared_row : (p : Bool → ℕ → ℕ → ℕ) (r s : ℕ) (cs : List Column) → IsShared r s cs → row_at p (suc s) r cs ≡ row_at p s r cs
shared_row p r s [] shared = refl
shared_row p r s (c ∷ cs) shared = elim (cases_Bool (ends r c)) [
  | inl e ↦ row_end p (suc s) r c cs e ∙ shared_on p r s cs shared.1 c.y ∙ sym (row_end p s r c cs e)
  | inr e ↦ row_apart p (suc s) r c cs e ∙ shared_row p r s cs shared.1 ∙ sym (row_apart p s r c cs e)
]

pub crossed_tests : (p : Bool → ℕ → ℕ → ℕ) → Acts p → (l m : Bool) (y a b : ℕ) → (crossed p l m y a == crossed p l m y b) ≡ (a == b)
crossed_tests p acts true true y a b = refl
crossed_tests p acts true false y a b = same_tests p acts true y a b
crossed_tests p acts false true y a b = same_tests p acts false y a b
crossed_tests p acts false false y a b = refl

-- both rows began at the shared column: the other end of row s is passed in its own colour
after_shared : (p : Bool → ℕ → ℕ → ℕ) → Acts p → (r s : ℕ) (cs : List Column) → marks s cs ≤ 1 → (a : ℕ) → on_at p s s a cs ≡ true
    → on_at p (suc s) r a cs ≡ on_at p s r a cs
after_shared p acts r s [] one a on = refl
after_shared p acts r s (c ∷ cs) one a on = elim (cases_Bool (ends r c)) [
  | inl e ↦ on_end p (suc s) r a c cs e ∙ sym (on_end p s r a c cs e)
  | inr e ↦ elim (cases_Bool (ends s c)) [
    | inl f ↦
        let same : a ≡ c.y = eqb-true a c.y (sym (on_end p s s a c cs f) ∙ on) in
        let up : crosses p (suc s) c a ≡ c.y = eqb-true (crosses p (suc s) c a) c.y (crossed_meets p acts (nat_lt c.x (suc s)) (nat_lt c.o (suc s)) c.y a
        ∙ eq-eqb a c.y same) in
        let low : crosses p s c a ≡ c.y = eqb-true (crosses p s c a) c.y (crossed_meets p acts (nat_lt c.x s) (nat_lt c.o s) c.y a ∙ eq-eqb a c.y same) in
        on_apart p (suc s) r a c cs e ∙ ap (λ b. on_at p (suc s) r b cs) (up ∙ sym low)
        ∙ shared_on p r s cs (shared_none r s cs (omega (arith, marks_end s c cs f, one))) (crosses p s c a) ∙ sym (on_apart p s r a c cs e)
    | inr f ↦
        on_apart p (suc s) r a c cs e ∙ ap (λ b. on_at p (suc s) r b cs) (above_apart p s c a f)
        ∙ after_shared p acts r s cs (omega (arith, marks_rest s c cs, one)) (crosses p s c a) (sym (on_apart p s s a c cs f) ∙ on)
        ∙ sym (on_apart p s r a c cs e)
  ]
]

-- row r began, then row s, and both end at the shared column: there the two walks of row r meet the colour of row s alike
after_both : (p : Bool → ℕ → ℕ → ℕ) → Acts p → (r s : ℕ) (cs : List Column) → marks r cs ≤ 1 → marks s cs ≤ 1 → HasBoth r s cs → (a a' b : ℕ)
    → on_at p s s b cs ≡ true → (a' == b) ≡ (a == b)
    → on_at p (suc s) r a' cs ≡ on_at p s r a cs
after_both p acts r s [] fr fs both a a' b on alike = absurd both
after_both p acts r s (c ∷ cs) fr fs both a a' b on alike = elim (cases_Bool (ends r c)) [
  | inl e ↦ elim (cases_Bool (ends s c)) [
    | inl f ↦
        let same : b ≡ c.y = eqb-true b c.y (sym (on_end p s s b c cs f) ∙ on) in
        on_end p (suc s) r a' c cs e ∙ subst (λ (y : ℕ). (a' == y) ≡ (a == y)) same alike ∙ sym (on_end p s r a c cs e)
    | inr f ↦ elim both [
      | inl h ↦ absurd (false≢true (sym f ∙ h.1))
      | inr h ↦ absurd (omega (arith, marks_end r c cs e, fr, marks_both r s cs h))
    ]
  ]
  | inr e ↦ elim both [
    | inl h ↦ absurd (false≢true (sym e ∙ h.0))
    | inr h ↦ elim (cases_Bool (ends s c)) [
      | inl f ↦ absurd (omega (arith, marks_end s c cs f, fs, marks_both r s cs h))
      | inr f ↦
          on_apart p (suc s) r a' c cs e ∙ ap (λ d. on_at p (suc s) r d cs) (above_apart p s c a' f)
          ∙ after_both p acts r s cs (omega (arith, marks_rest r c cs, fr)) (omega (arith, marks_rest s c cs, fs)) h (crosses p s c a) (crosses p s c a')
          (crosses p s c b)
          (sym (on_apart p s s b c cs f) ∙ on)
          (crossed_tests p acts (nat_lt c.x s) (nat_lt c.o s) c.y a' b ∙ alike ∙ sym (crossed_tests p acts (nat_lt c.x s) (nat_lt c.o s) c.y a b))
          ∙ sym (on_apart p s r a c cs e)
    ]
  ]
]

-- row r began at its own end
after_own : (p : Bool → ℕ → ℕ → ℕ) → Acts p → (r s : ℕ) (cs : List Column) → marks r cs ≤ 1 → marks s cs ≤ 2 → HasBoth r s cs → (a : ℕ) → row_at p s s cs ≡ true
    → on_at p (suc s) r a cs ≡ on_at p s r a cs
after_own p acts r s [] fr fs both a row = absurd both
after_own p acts r s (c ∷ cs) fr fs both a row = elim (cases_Bool (ends r c)) [
  | inl e ↦ on_end p (suc s) r a c cs e ∙ sym (on_end p s r a c cs e)
  | inr e ↦ elim both [
    | inl h ↦ absurd (false≢true (sym e ∙ h.0))
    | inr h ↦ elim (cases_Bool (ends s c)) [
      | inl f ↦
          on_apart p (suc s) r a c cs e
          ∙ after_both p acts r s cs (omega (arith, marks_rest r c cs, fr)) (omega (arith, marks_end s c cs f, fs)) h (crosses p s c a)
          (crosses p (suc s) c a) c.y (sym (row_end p s s c cs f) ∙ row)
          (crossed_meets p acts (nat_lt c.x (suc s)) (nat_lt c.o (suc s)) c.y a ∙ sym (crossed_meets p acts (nat_lt c.x s) (nat_lt c.o s) c.y a))
          ∙ sym (on_apart p s r a c cs e)
      | inr f ↦
          on_apart p (suc s) r a c cs e ∙ ap (λ d. on_at p (suc s) r d cs) (above_apart p s c a f)
          ∙ after_own p acts r s cs (omega (arith, marks_rest r c cs, fr)) (omega (arith, marks_rest s c cs, fs)) h (crosses p s c a)
          (sym (row_apart p s s c cs f) ∙ row)
          ∙ sym (on_apart p s r a c cs e)
    ]
  ]
]

-- a row passes a row that shares a column with it
pub row_passes : (p : Bool → ℕ → ℕ → ℕ) → Acts p → (r s : ℕ) (cs : List Column) → marks r cs ≤ 2 → marks s cs ≤ 2 → HasBoth r s cs → row_at p s s cs ≡ true
    → row_at p (suc s) r cs ≡ row_at p s r cs
row_passes p acts r s [] fr fs both row = refl
row_passes p acts r s (c ∷ cs) fr fs both row = elim (cases_Bool (ends r c)) [
  | inl e ↦ elim (cases_Bool (ends s c)) [
    | inl f ↦
        row_end p (suc s) r c cs e ∙ after_shared p acts r s cs (omega (arith, marks_end s c cs f, fs)) c.y (sym (row_end p s s c cs f) ∙ row)
        ∙ sym (row_end p s r c cs e)
    | inr f ↦ elim both [
      | inl h ↦ absurd (false≢true (sym f ∙ h.1))
      | inr h ↦
          row_end p (suc s) r c cs e ∙ after_own p acts r s cs (omega (arith, marks_end r c cs e, fr)) (omega (arith, marks_rest s c cs, fs)) h c.y
          (sym (row_apart p s s c cs f) ∙ row) ∙ sym (row_end p s r c cs e)
    ]
  ]
  | inr e ↦ elim both [
    | inl h ↦ absurd (false≢true (sym e ∙ h.0))
    | inr h ↦ elim (cases_Bool (ends s c)) [
      | inl f ↦ row_apart p (suc s) r c cs e ∙ shared_row p r s cs (shared_one r s cs (omega (arith, marks_end s c cs f, fs)) h) ∙ sym (row_apart p s r c cs e)
      | inr f ↦ row_apart p (suc s) r c cs e ∙ row_passes p acts r s cs (omega (arith, marks_rest r c cs, fr)) (omega (arith, marks_rest s c cs, fs)) h
          (sym (row_apart p s s c cs f) ∙ row) ∙ sym (row_apart p s r c cs e)
    ]
  ]
]

pub both_sym : (r s : ℕ) (cs : List Column) → HasBoth r s cs → HasBoth s r cs
both_sym r s [] both = both
both_sym r s (c ∷ cs) both = elim both [ inl h ↦ inl (h.1, h.0) | inr h ↦ inr (both_sym r s cs h) ]

-- the walks after a slide of rows r and r + 1
slid_rows : (p : Bool → ℕ → ℕ → ℕ) → Acts p → (n r : ℕ) (cs : List Column) → suc r < n → HasBoth r (suc r) cs → IsColoured p n cs → (s : ℕ) → s < n
    → walk p s (map (relabel (swapped r)) cs) ≡ true
slid_rows p acts n r cs inside both coloured s lt =
    let below : r < n = omega arith in
    let low : row_at p r r cs ≡ true = sym (row_walk p r cs) ∙ coloured.walks r below in
    let high : row_at p (suc r) (suc r) cs ≡ true = sym (row_walk p (suc r) cs) ∙ coloured.walks (suc r) inside in
    let mr : marks r cs ≤ 2 = omega (arith, coloured.crosses r below, coloured.rings r below) in
    let ms : marks (suc r) cs ≤ 2 = omega (arith, coloured.crosses (suc r) inside, coloured.rings (suc r) inside) in
    row_walk p s (map (relabel (swapped r)) cs) ∙ elim (cases_eq s r) [
      | inl e ↦ subst (λ (u : ℕ). row_at p u u (map (relabel (swapped r)) cs) ≡ true) (sym e)
          (row_relabel p (swapped r) r (suc r) r r (eq_lower r) (lt_lower r) cs
          ∙ sym (row_passes p acts (suc r) r cs ms mr (both_sym r (suc r) cs both) low) ∙ high)
      | inr u ↦ elim (cases_eq s (suc r)) [
        | inl e ↦ subst (λ (u : ℕ). row_at p u u (map (relabel (swapped r)) cs) ≡ true) (sym e)
            (row_relabel p (swapped r) (suc (suc r)) r (suc r) (suc r) (eq_upper r) (lt_upper r) cs ∙ row_passes p acts r (suc r) cs mr ms both high
            ∙ row_above p r cs ∙ low)
        | inr v ↦ row_relabel p (swapped r) s s s s (eq_other r s u v) (λ x n. lt_other r s u v x) cs ∙ sym (row_walk p s cs) ∙ coloured.walks s lt
      ]
    ]

both_again : (r : ℕ) (cs : List Column) → HasBoth r (suc r) cs → HasBoth r (suc r) (map (relabel (swapped r)) cs)
both_again r [] both = both
both_again r (c ∷ cs) both = elim both [
  | inl h ↦ inl (ends_relabel (swapped r) (suc r) r (eq_lower r) c ∙ h.1, ends_relabel (swapped r) r (suc r) (eq_upper r) c ∙ h.0)
  | inr h ↦ inr (both_again r cs h)
]

pub same_both : (r s : ℕ) (cs bs : List Column) → xs_of cs ≡ xs_of bs → os_of cs ≡ os_of bs → HasBoth r s cs → HasBoth r s bs
same_both r s [] bs ex eo both = absurd both
same_both r s (c ∷ cs) [] ex eo both = absurd (cc)
same_both r s (c ∷ cs) (b ∷ bs) ex eo both =
    let hx : b.x ≡ c.x = cc in
    let ho : b.o ≡ c.o = cc in
    let same : (t : ℕ) → ends t b ≡ ends t c = λ t. ap₂ (λ x o. ends t (record { x = x; o = o; y = 0 })) hx ho in
    elim both [
      | inl h ↦ inl (same r ∙ h.0, same s ∙ h.1)
      | inr h ↦ inr (same_both r s cs bs (cc) (cc) h)
    ]

-- a slide of rows: every column keeps its colour
pub rows_slid : (t : Table) → IsQuandle t → (g h : Diagram) → IsGrid g → IsGrid h → (r : ℕ) → suc r < length g.x → HasBoth r (suc r) (bare g)
    → h.x ≡ map (swapped r) g.x → h.o ≡ map (swapped r) g.o
    → AreInverse (IsColouringByColumns t g) (IsColouringByColumns t h) (λ c. c) (λ d. d)
rows_slid t q g h grid grid' r lt both hx ho =
    let acts = act_acts t q in
    let size : length h.x ≡ length g.x = ap length hx ∙ length-map g.x (swapped r) in
    let gx : map (swapped r) h.x ≡ g.x = ap (map (swapped r)) hx ∙ map_twice r g.x in
    let go : map (swapped r) h.o ≡ g.o = ap (map (swapped r)) ho ∙ map_twice r g.o in
    let blank : IsMarked g (bare g) = marked_columns g (map (λ m. 0) g.x) grid (length-map g.x (λ m. 0)) in
    let here : (cs : List Column) → IsMarked g cs → HasBoth r (suc r) cs = λ cs marked. same_both r (suc r) (bare g) cs (blank.crosses ∙ sym marked.crosses)
    (blank.rings ∙ sym marked.rings) both in
    let comes : (ds : List Column) → IsMarked h ds → IsMarked g (map (relabel (swapped r)) ds) = λ ds marked.
    record {
      crosses = xs_of_relabel (swapped r) ds ∙ ap (map (swapped r)) marked.crosses ∙ gx;
      rings =
          os_of_relabel (swapped r) ds ∙ ap (map (swapped r)) marked.rings ∙ go;
    } in
    let there : (ds : List Column) → IsMarked h ds → HasBoth r (suc r) ds = λ ds marked.
    subst (HasBoth r (suc r)) (columns_twice r ds) (both_again r (map (relabel (swapped r)) ds) (here (map (relabel (swapped r)) ds) (comes ds marked))) in
    let carried : IsCarried t g h (map (relabel (swapped r))) (map (relabel (swapped r))) = record {
      goes = λ cs marked. record {
        crosses = xs_of_relabel (swapped r) cs ∙ ap (map (swapped r)) marked.crosses ∙ sym hx;
        rings =
            os_of_relabel (swapped r) cs ∙ ap (map (swapped r)) marked.rings ∙ sym ho;
      };
      comes = comes;
      walks = λ cs marked coloured s ls. slid_rows (act t) acts (length g.x) r cs lt (here cs marked) coloured s (omega (arith, ls, size));
      walks_back = λ ds marked coloured s ls. slid_rows (act t) acts (length h.x) r ds (omega (arith, lt, size)) (there ds marked) coloured s
          (omega (arith, ls, size));
      below = λ cs marked all. subst (All (λ y. y < t.order)) (sym (ys_of_relabel (swapped r) cs)) all;
      below_back = λ ds marked all. subst (All (λ y. y < t.order)) (sym (ys_of_relabel (swapped r) ds)) all;
      there = λ cs marked coloured. columns_twice r cs;
      again = λ ds marked coloured. columns_twice r ds;
    } in
    bijection_same (IsColouringByColumns t g) (IsColouringByColumns t h) (λ c. ys_of (map (relabel (swapped r)) (columns g.x g.o c)))
    (λ d. ys_of (map (relabel (swapped r)) (columns h.x h.o d))) (λ c. c) (λ d. d)
    (bijection_of t g h (map (relabel (swapped r))) (map (relabel (swapped r))) grid grid' carried)
    (λ c colouring. ys_of_relabel (swapped r) (columns g.x g.o c) ∙ ys_of_columns g.x g.o c grid.same colouring.size)
    (λ d colouring. ys_of_relabel (swapped r) (columns h.x h.o d) ∙ ys_of_columns h.x h.o d grid'.same colouring.size)
