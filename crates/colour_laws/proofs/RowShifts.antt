-- The shift of rows, as a bijection of colourings.
use Rattle.std.proofs.Common.{◌≡◌, ◌∙◌, ◌<◌, ◌≤◌, ℕ, zero, suc, List, [], ◌∷◌, map, length, ap, ap₂, sym, refl, arith, inl, inr, subst}
use Rattle.std.specs.Prelude.{Bool, true, false}
use Rattle.std.specs.List.{All}
use Rattle.std.proofs.Math.Bool.{not}
use Rattle.std.proofs.lemmas.List.{length-map}
use Rattle.std.proofs.lemmas.List.Elements.{All-cons}
use Rattle.std.proofs.lemmas.Bool.{cond-true, cond-false, cases_Bool}
use Rattle.grid_core.specs.Diagram.{Diagram, IsGrid}
use Rattle.colour_laws.proofs.ColumnLists.{Acts, Column, ends, rises, IsColoured, relabel, recolour, dropped, lowered, recoloured, recoloured_on}
use Rattle.quandle_core.specs.Quandle.{Table, IsQuandle}
use Rattle.colour_laws.proofs.ColouredColumns.{act, columns, xs_of, os_of, ys_of, IsColouringByColumns, AreInverse, IsMarked, fallen, fallen_colours}
use Rattle.colour_laws.proofs.ColouredColumns.{risen_colours, rows_carry, rows_return}
use Rattle.colour_laws.proofs.Actions.{undo}
use Rattle.colour_laws.proofs.Tables.{act_acts, act_below}
use Rattle.colour_laws.proofs.LoweredMarks.{lowered_is, recoloured_on_end, recoloured_on_apart}
use Rattle.colour_laws.proofs.ShiftRows.{rows_lowered, rows_raised}
use Rattle.colour_laws.proofs.Marked.{IsCarried, bijection_of, ys_of_columns, xs_of_columns, os_of_columns, columns_marked, inside}
use Rattle.colour_laws.proofs.ColumnShifts.{bijection_same, bijection_then}

pub recoloured_end : (p : Bool → ℕ → ℕ → ℕ) (turn : Bool → Bool) (c : Column) (cs : List Column) → ends 0 c ≡ true
    → recoloured p turn (c ∷ cs) ≡ c ∷ recoloured_on p (turn (rises c)) c.y cs
recoloured_end p turn c cs e = ap (λ ds. c ∷ ds) (cond-true (ends 0 c) (recoloured_on p (turn (rises c)) c.y cs) (recoloured p turn cs) e)

pub recoloured_apart : (p : Bool → ℕ → ℕ → ℕ) (turn : Bool → Bool) (c : Column) (cs : List Column) → ends 0 c ≡ false
    → recoloured p turn (c ∷ cs) ≡ c ∷ recoloured p turn cs
recoloured_apart p turn c cs e = ap (λ ds. c ∷ ds) (cond-false (ends 0 c) (recoloured_on p (turn (rises c)) c.y cs) (recoloured p turn cs) e)

-- the marks stay
marks_on : (p : Bool → ℕ → ℕ → ℕ) (d : Bool) (a : ℕ) (cs : List Column)
    → (xs_of (recoloured_on p d a cs) ≡ xs_of cs) × (os_of (recoloured_on p d a cs) ≡ os_of cs)
marks_on p d a [] = (refl, refl)
marks_on p d a (c ∷ cs) =
    let rest = marks_on p d a cs in
    elim (cases_Bool (ends 0 c)) [
      | inl e ↦ (ap xs_of (recoloured_on_end p d a c cs e), ap os_of (recoloured_on_end p d a c cs e))
      | inr e ↦ (ap xs_of (recoloured_on_apart p d a c cs e) ∙ ap (λ l. c.x ∷ l) rest.0, ap os_of (recoloured_on_apart p d a c cs e) ∙ ap (λ l. c.o ∷ l) rest.1)
    ]

pub marks_recoloured : (p : Bool → ℕ → ℕ → ℕ) (turn : Bool → Bool) (cs : List Column)
    → (xs_of (recoloured p turn cs) ≡ xs_of cs) × (os_of (recoloured p turn cs) ≡ os_of cs)
marks_recoloured p turn [] = (refl, refl)
marks_recoloured p turn (c ∷ cs) =
    let rest = marks_recoloured p turn cs in
    let mid = marks_on p (turn (rises c)) c.y cs in
    elim (cases_Bool (ends 0 c)) [
      | inl e ↦ (ap xs_of (recoloured_end p turn c cs e) ∙ ap (λ l. c.x ∷ l) mid.0, ap os_of (recoloured_end p turn c cs e) ∙ ap (λ l. c.o ∷ l) mid.1)
      | inr e ↦ (ap xs_of (recoloured_apart p turn c cs e) ∙ ap (λ l. c.x ∷ l) rest.0, ap os_of (recoloured_apart p turn c cs e) ∙ ap (λ l. c.o ∷ l) rest.1)
    ]

-- one way and then the other
again_on : (p : Bool → ℕ → ℕ → ℕ) → Acts p → (d : Bool) (a : ℕ) (cs : List Column) → recoloured_on p (not d) a (recoloured_on p d a cs) ≡ cs
again_on p acts d a [] = refl
again_on p acts d a (c ∷ cs) = elim (cases_Bool (ends 0 c)) [
  | inl e ↦ ap (recoloured_on p (not d) a) (recoloured_on_end p d a c cs e) ∙ recoloured_on_end p (not d) a c cs e
  | inr e ↦
      ap (recoloured_on p (not d) a) (recoloured_on_apart p d a c cs e)
      ∙ recoloured_on_apart p (not d) a (recolour c (p d a c.y)) (recoloured_on p d a cs) e
      ∙ ap₂ (λ y l. recolour c y ∷ l) (undo p acts d a c.y) (again_on p acts d a cs)
]

pub recoloured_back : (p : Bool → ℕ → ℕ → ℕ) → Acts p → (turn back : Bool → Bool) → ((b : Bool) → back b ≡ not (turn b)) → (cs : List Column)
    → recoloured p back (recoloured p turn cs) ≡ cs
recoloured_back p acts turn back inverse [] = refl
recoloured_back p acts turn back inverse (c ∷ cs) = elim (cases_Bool (ends 0 c)) [
  | inl e ↦
      ap (recoloured p back) (recoloured_end p turn c cs e) ∙ recoloured_end p back c (recoloured_on p (turn (rises c)) c.y cs) e
      ∙ ap (λ d. c ∷ recoloured_on p d c.y (recoloured_on p (turn (rises c)) c.y cs)) (inverse (rises c))
      ∙ ap (λ l. c ∷ l) (again_on p acts (turn (rises c)) c.y cs)
  | inr e ↦
      ap (recoloured p back) (recoloured_apart p turn c cs e) ∙ recoloured_apart p back c (recoloured p turn cs) e
      ∙ ap (λ l. c ∷ l) (recoloured_back p acts turn back inverse cs)
]

-- colours stay colours
all_rest : (b y : ℕ) (ys : List ℕ) → All (λ m. m < b) (y ∷ ys) → All (λ m. m < b) ys
all_rest b y ys all = λ k d lt. all (suc k) d (omega arith)

all_first : (b y : ℕ) (ys : List ℕ) → All (λ m. m < b) (y ∷ ys) → y < b
all_first b y ys all = all 0 0 (omega arith)

below_on : (t : Table) → IsQuandle t → (d : Bool) (a : ℕ) (cs : List Column) → All (λ m. m < t.order) (ys_of cs)
    → All (λ m. m < t.order) (ys_of (recoloured_on (act t) d a cs))
below_on t q d a [] all = all
below_on t q d a (c ∷ cs) all = elim (cases_Bool (ends 0 c)) [
  | inl e ↦ subst (λ (l : List Column). All (λ m. m < t.order) (ys_of l)) (sym (recoloured_on_end (act t) d a c cs e)) all
  | inr e ↦
      let first = all_first t.order c.y (ys_of cs) all in
      let rest = below_on t q d a cs (all_rest t.order c.y (ys_of cs) all) in
      subst (λ (l : List Column). All (λ m. m < t.order) (ys_of l)) (sym (recoloured_on_apart (act t) d a c cs e))
      (All-cons (λ m. m < t.order) (act t d a c.y) (ys_of (recoloured_on (act t) d a cs)) (act_below t q d a c.y first) rest)
]

below_recoloured : (t : Table) → IsQuandle t → (turn : Bool → Bool) (cs : List Column) → All (λ m. m < t.order) (ys_of cs)
    → All (λ m. m < t.order) (ys_of (recoloured (act t) turn cs))
below_recoloured t q turn [] all = all
below_recoloured t q turn (c ∷ cs) all =
    let first = all_first t.order c.y (ys_of cs) all in
    let rest = all_rest t.order c.y (ys_of cs) all in
    elim (cases_Bool (ends 0 c)) [
      | inl e ↦ subst (λ (l : List Column). All (λ m. m < t.order) (ys_of l)) (sym (recoloured_end (act t) turn c cs e))
          (All-cons (λ m. m < t.order) c.y (ys_of (recoloured_on (act t) (turn (rises c)) c.y cs)) first (below_on t q (turn (rises c)) c.y cs rest))
      | inr e ↦ subst (λ (l : List Column). All (λ m. m < t.order) (ys_of l)) (sym (recoloured_apart (act t) turn c cs e))
          (All-cons (λ m. m < t.order) c.y (ys_of (recoloured (act t) turn cs)) first (below_recoloured t q turn cs rest))
    ]

-- marks under other numbers
pub xs_of_relabel : (f : ℕ → ℕ) (cs : List Column) → xs_of (map (relabel f) cs) ≡ map f (xs_of cs)
xs_of_relabel f [] = refl
xs_of_relabel f (c ∷ cs) = ap (λ l. f c.x ∷ l) (xs_of_relabel f cs)

pub os_of_relabel : (f : ℕ → ℕ) (cs : List Column) → os_of (map (relabel f) cs) ≡ map f (os_of cs)
os_of_relabel f [] = refl
os_of_relabel f (c ∷ cs) = ap (λ l. f c.o ∷ l) (os_of_relabel f cs)

pub ys_of_relabel : (f : ℕ → ℕ) (cs : List Column) → ys_of (map (relabel f) cs) ≡ ys_of cs
ys_of_relabel f [] = refl
ys_of_relabel f (c ∷ cs) = ap (λ l. c.y ∷ l) (ys_of_relabel f cs)

-- columns with the same marks and colours
pub same_columns : (g : Diagram) (cs ds : List Column) → IsMarked g cs → IsMarked g ds → ys_of cs ≡ ys_of ds → cs ≡ ds
same_columns g cs ds a b e = sym (columns_marked g cs a) ∙ ap (columns g.x g.o) e ∙ columns_marked g ds b

pub not_not : (b : Bool) → b ≡ not (not b)
not_not true = refl
not_not false = refl

-- colours for the columns of a grid
pub marked_with : (g h : Diagram) (ds : List Column) → IsGrid g → length h.x ≡ length g.x → IsMarked h ds
    → IsMarked g (columns g.x g.o (ys_of ds)) × (ys_of (columns g.x g.o (ys_of ds)) ≡ ys_of ds)
marked_with g h ds grid size marked =
    let n : length (ys_of ds) ≡ length g.x = length-map ds (λ (l : Column). l.y) ∙ sym (length-map ds (λ (l : Column). l.x))
    ∙ ap length marked.crosses ∙ size in (
      record { crosses = xs_of_columns g.x g.o (ys_of ds) grid.same n; rings = os_of_columns g.x g.o (ys_of ds) grid.same n },
      ys_of_columns g.x g.o (ys_of ds) grid.same n,
    )

-- the shift of the rows by one
pub rows_shifted_once : (t : Table) → IsQuandle t → (g h : Diagram) → IsGrid g → IsGrid h → h.x ≡ map (dropped (length g.x)) g.x
    → h.o ≡ map (dropped (length g.x)) g.o
    → AreInverse (IsColouringByColumns t g) (IsColouringByColumns t h) (fallen_colours t g) (risen_colours t g)
rows_shifted_once t q g h grid grid' hx ho =
    let acts = act_acts t q in
    let size : length h.x ≡ length g.x = ap length hx ∙ length-map g.x (dropped (length g.x)) in
    let go : List Column → List Column = λ cs. lowered (act t) (length g.x) cs in
    let come : List Column → List Column = λ ds. recoloured (act t) (λ up. up) (columns g.x g.o (ys_of ds)) in
    let goes : (cs : List Column) → IsMarked g cs → IsMarked h (lowered (act t) (length g.x) cs) = λ cs marked. record {
      crosses = ap xs_of (lowered_is (act t) (length g.x) cs) ∙ xs_of_relabel (dropped (length g.x)) (recoloured (act t) not cs)
          ∙ ap (map (dropped (length g.x))) ((marks_recoloured (act t) not cs).0 ∙ marked.crosses) ∙ sym hx;
      rings = ap os_of (lowered_is (act t) (length g.x) cs) ∙ os_of_relabel (dropped (length g.x)) (recoloured (act t) not cs)
          ∙ ap (map (dropped (length g.x))) ((marks_recoloured (act t) not cs).1 ∙ marked.rings) ∙ sym ho;
    } in
    let ys : (cs : List Column) → ys_of (lowered (act t) (length g.x) cs) ≡ ys_of (recoloured (act t) not cs) = λ cs.
    ap ys_of (lowered_is (act t) (length g.x) cs) ∙ ys_of_relabel (dropped (length g.x)) (recoloured (act t) not cs) in
    let comes : (ds : List Column) → IsMarked h ds → IsMarked g (recoloured (act t) (λ up. up) (columns g.x g.o (ys_of ds))) = λ ds marked.
    let with = marked_with g h ds grid size marked in
    record {
      crosses = (marks_recoloured (act t) (λ up. up) (columns g.x g.o (ys_of ds))).0 ∙ with.0.crosses;
      rings = (marks_recoloured (act t) (λ up. up) (columns g.x g.o (ys_of ds))).1 ∙ with.0.rings;
    } in
    let again : (ds : List Column) → IsMarked h ds
    → lowered (act t) (length g.x) (recoloured (act t) (λ up. up) (columns g.x g.o (ys_of ds))) ≡ ds = λ ds marked.
    let with = marked_with g h ds grid size marked in
    same_columns h (lowered (act t) (length g.x) (recoloured (act t) (λ up. up) (columns g.x g.o (ys_of ds)))) ds
    (goes (recoloured (act t) (λ up. up) (columns g.x g.o (ys_of ds))) (comes ds marked)) marked
    (ys (recoloured (act t) (λ up. up) (columns g.x g.o (ys_of ds)))
    ∙ ap ys_of (recoloured_back (act t) acts (λ up. up) not (λ b. refl) (columns g.x g.o (ys_of ds))) ∙ with.1) in
    let some : 0 < length g.x = omega (arith, grid.least) in
    let carried : IsCarried t g h go come = record {
      goes = goes;
      comes = comes;
      walks = λ cs marked coloured r lt. (rows_lowered (act t) acts (length g.x) cs some (inside g cs grid marked) coloured).walks r (omega (arith, lt, size));
      walks_back = λ ds marked coloured r lt.
          let home = recoloured (act t) (λ up. up) (columns g.x g.o (ys_of ds)) in
          let coloured' : IsColoured (act t) (length g.x) (lowered (act t) (length g.x) (recoloured (act t) (λ up. up) (columns g.x g.o (ys_of ds)))) =
          subst (IsColoured (act t) (length g.x)) (sym (again ds marked)) (subst (λ (m : ℕ). IsColoured (act t) m ds) size coloured) in
          (rows_raised (act t) acts (length g.x) (recoloured (act t) (λ up. up) (columns g.x g.o (ys_of ds))) some
          (inside g (recoloured (act t) (λ up. up) (columns g.x g.o (ys_of ds))) grid (comes ds marked)) coloured').walks r lt;
      below = λ cs marked all. subst (All (λ m. m < t.order)) (sym (ys cs)) (below_recoloured t q not cs all);
      below_back = λ ds marked all. below_recoloured t q (λ up. up) (columns g.x g.o (ys_of ds))
          (subst (All (λ m. m < t.order)) (sym (marked_with g h ds grid size marked).1) all);
      there = λ cs marked coloured.
          ap (λ l. recoloured (act t) (λ up. up) (columns g.x g.o l)) (ys cs)
          ∙ ap (recoloured (act t) (λ up. up))
          (columns_marked g (recoloured (act t) not cs) (record {
            crosses = (marks_recoloured (act t) not cs).0 ∙ marked.crosses;
            rings =
                (marks_recoloured (act t) not cs).1 ∙ marked.rings;
          }))
          ∙ recoloured_back (act t) acts not (λ up. up) not_not cs;
      again = λ ds marked coloured. again ds marked;
    } in
    bijection_same (IsColouringByColumns t g) (IsColouringByColumns t h) (λ c. ys_of (lowered (act t) (length g.x) (columns g.x g.o c)))
    (λ d. ys_of (recoloured (act t) (λ up. up) (columns g.x g.o (ys_of (columns h.x h.o d)))))
    (fallen_colours t g) (risen_colours t g)
    (bijection_of t g h go come grid grid' carried)
    (λ c colouring. ys (columns g.x g.o c))
    (λ d colouring. ap (λ l. ys_of (recoloured (act t) (λ up. up) (columns g.x g.o l))) (ys_of_columns h.x h.o d grid'.same colouring.size))

pub length_fallen : (k : ℕ) (g : Diagram) → length (fallen k g).x ≡ length g.x
length_fallen zero g = refl
length_fallen (suc k) g = length-map (fallen k g).x (dropped (length g.x)) ∙ length_fallen k g

-- the shift of the rows by k
pub rows_shifted : (t : Table) → IsQuandle t → (g : Diagram) (k : ℕ) → ((j : ℕ) → j ≤ k → IsGrid (fallen j g))
    → AreInverse (IsColouringByColumns t g) (IsColouringByColumns t (fallen k g)) (rows_carry t k g) (rows_return t k g)
rows_shifted t q g zero grids = record { goes = λ c h. h; comes = λ d h. h; there = λ c h. refl; again = λ d h. refl }
rows_shifted t q g (suc k) grids =
    bijection_then (IsColouringByColumns t g) (IsColouringByColumns t (fallen k g)) (IsColouringByColumns t (fallen (suc k) g)) (rows_carry t k g)
    (rows_return t k g)
    (fallen_colours t (fallen k g)) (risen_colours t (fallen k g))
    (rows_shifted t q g k (λ j le. grids j (omega arith)))
    (rows_shifted_once t q (fallen k g) (fallen (suc k) g) (grids k (omega arith)) (grids (suc k) (omega arith))
    (ap (λ m. map (dropped m) (fallen k g).x) (sym (length_fallen k g))) (ap (λ m. map (dropped m) (fallen k g).o) (sym (length_fallen k g))))
