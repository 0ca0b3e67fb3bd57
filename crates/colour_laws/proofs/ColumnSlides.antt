-- Slides of neighbouring columns that share a row: the two have one colour, and neighbours of one colour trade places freely.
use Rattle.std.proofs.Common.{append_assoc, ◌≡◌, ◌≢◌, ◌∙◌, ◌<◌, ◌++◌, ℕ, zero, suc, List, [], ◌∷◌, map, length, ap, ap₂, sym, refl, arith, inl, inr, subst}
use Rattle.std.specs.Prelude.{Bool, true, false, nat_lt, ◌==◌, slice_index}
use Rattle.std.specs.List.{All}
use Rattle.std.proofs.lemmas.List.{length-map}
use Rattle.std.proofs.lemmas.Bool.{cases_Bool, cases_eq, eqb-true}
use Rattle.std.proofs.lemmas.List.Elements.{All-cons}
use Rattle.grid_core.specs.Diagram.{Diagram, IsGrid}
use Rattle.colour_laws.proofs.ColumnLists.{Acts, Column, ends, crossed, crosses, xs_in, os_in, IsColoured}
use Rattle.quandle_core.specs.Quandle.{Table, IsQuandle}
use Rattle.colour_laws.proofs.ColouredColumns.{act, columns, xs_of, os_of, ys_of, IsColouringByColumns, AreInverse, IsMarked, neighbours_traded, IsSharing}
use Rattle.colour_laws.proofs.ColouredColumns.{bare}
use Rattle.colour_laws.proofs.Actions.{crossed_carries, crossed_fixed}
use Rattle.colour_laws.proofs.Rows.{on_at, row_at, row_end, row_apart, on_end, on_apart, row_walk, ends_cross, ends_ring, ends_apart}
use Rattle.colour_laws.proofs.Level.{xs_here, xs_not_here, os_here, os_not_here}
use Rattle.colour_laws.proofs.ExchangeColumns.{IsAlike, alike_behind}
use Rattle.colour_laws.proofs.Stabilise.{crossed_meets}
use Rattle.colour_laws.proofs.Tables.{act_acts}
use Rattle.colour_laws.proofs.Marked.{IsCarried, bijection_of, ys_of_columns, marked_columns, coloured_of}
use Rattle.colour_laws.proofs.ColumnShifts.{bijection_same}
use Rattle.colour_laws.proofs.Exchanges.{traded_marks_twice, length_traded}

-- actions of one colour commute
pub crossed_commute : (p : Bool → ℕ → ℕ → ℕ) → Acts p → (l m l' m' : Bool) (y a : ℕ)
    → crossed p l m y (crossed p l' m' y a) ≡ crossed p l' m' y (crossed p l m y a)
crossed_commute p acts l m true true y a = refl
crossed_commute p acts l m true false y a = crossed_carries p acts true l m y y a ∙ ap (λ z. p true z (crossed p l m y a)) (crossed_fixed p acts l m y)
crossed_commute p acts l m false true y a = crossed_carries p acts false l m y y a ∙ ap (λ z. p false z (crossed p l m y a)) (crossed_fixed p acts l m y)
crossed_commute p acts l m false false y a = refl

-- neighbours of one colour trade places, whatever their marks
alike_equal : (p : Bool → ℕ → ℕ → ℕ) → Acts p → (r : ℕ) (u v : Column) (rest : List Column) → u.y ≡ v.y → IsAlike p r r (u ∷ v ∷ rest) (v ∷ u ∷ rest)
alike_equal p acts r u v rest e =
    let over : (c d : Column) → c.y ≡ d.y → (a : ℕ) → (crosses p r c a == d.y) ≡ (a == d.y) = λ c d same a.
    ap (λ y. crossed p (nat_lt c.x r) (nat_lt c.o r) y a == d.y) same ∙ crossed_meets p acts (nat_lt c.x r) (nat_lt c.o r) d.y a in
    let own : (c d : Column) → c.y ≡ d.y → crosses p r c d.y ≡ d.y = λ c d same.
    ap (λ y. crossed p (nat_lt c.x r) (nat_lt c.o r) y d.y) same ∙ crossed_fixed p acts (nat_lt c.x r) (nat_lt c.o r) d.y in
    elim (cases_Bool (ends r u)) [
      | inl f ↦ elim (cases_Bool (ends r v)) [
        | inl g ↦ record {
          on = λ a. on_end p r r a u (v ∷ rest) f ∙ ap (λ y. a == y) e ∙ sym (on_end p r r a v (u ∷ rest) g);
          row =
              row_end p r r u (v ∷ rest) f ∙ on_end p r r u.y v rest g ∙ ap₂ (λ y z. y == z) e (sym e)
              ∙ sym (row_end p r r v (u ∷ rest) g ∙ on_end p r r v.y u rest f);
        }
        | inr g ↦ record {
          on = λ a. on_end p r r a u (v ∷ rest) f ∙ sym (on_apart p r r a v (u ∷ rest) g ∙ on_end p r r (crosses p r v a) u rest f ∙ over v u (sym e) a);
          row =
              row_end p r r u (v ∷ rest) f ∙ on_apart p r r u.y v rest g ∙ ap (λ b. on_at p r r b rest) (own v u (sym e))
              ∙ sym (row_apart p r r v (u ∷ rest) g ∙ row_end p r r u rest f);
        }
      ]
      | inr f ↦ elim (cases_Bool (ends r v)) [
        | inl g ↦ record {
          on = λ a. on_apart p r r a u (v ∷ rest) f ∙ on_end p r r (crosses p r u a) v rest g ∙ over u v e a ∙ sym (on_end p r r a v (u ∷ rest) g);
          row =
              row_apart p r r u (v ∷ rest) f ∙ row_end p r r v rest g ∙ ap (λ b. on_at p r r b rest) (sym (own u v e))
              ∙ sym (row_end p r r v (u ∷ rest) g ∙ on_apart p r r v.y u rest f);
        }
        | inr g ↦ record {
          on = λ a. on_apart p r r a u (v ∷ rest) f ∙ on_apart p r r (crosses p r u a) v rest g
              ∙ ap (λ b. on_at p r r b rest) (ap (λ y. crossed p (nat_lt v.x r) (nat_lt v.o r) v.y (crossed p (nat_lt u.x r) (nat_lt u.o r) y a)) e
              ∙ crossed_commute p acts (nat_lt v.x r) (nat_lt v.o r) (nat_lt u.x r) (nat_lt u.o r) v.y a
              ∙ ap (λ y. crossed p (nat_lt u.x r) (nat_lt u.o r) y (crossed p (nat_lt v.x r) (nat_lt v.o r) v.y a)) (sym e))
              ∙ sym (on_apart p r r a v (u ∷ rest) g ∙ on_apart p r r (crosses p r v a) u rest f);
          row = row_apart p r r u (v ∷ rest) f ∙ row_apart p r r v rest g ∙ sym (row_apart p r r v (u ∷ rest) g ∙ row_apart p r r u rest f);
        }
      ]
    ]

-- the shared row has its two marks there
shared_marks : (r c : ℕ) (cs : List Column) → IsSharing r c cs → (0 < xs_in r cs) × (0 < os_in r cs)
shared_marks r zero [] is = absurd is
shared_marks r zero (u ∷ []) is = absurd is
shared_marks r zero (u ∷ v ∷ rest) is = elim is [
  | inl h ↦ (
    omega (arith, xs_here r u (v ∷ rest) h.0),
    elim (cases_eq u.o r) [
      | inl e ↦ omega (arith, os_here r u (v ∷ rest) e)
      | inr n ↦ omega (arith, os_not_here r u (v ∷ rest) n, os_here r v rest h.1)
    ],
  )
  | inr h ↦ (
    elim (cases_eq u.x r) [
      | inl e ↦ omega (arith, xs_here r u (v ∷ rest) e)
      | inr n ↦ omega (arith, xs_not_here r u (v ∷ rest) n, xs_here r v rest h.1)
    ],
    omega (arith, os_here r u (v ∷ rest) h.0),
  )
]
shared_marks r (suc c) [] is = absurd is
shared_marks r (suc c) (u ∷ rest) is =
    let more = shared_marks r c rest is in (
      elim (cases_eq u.x r) [ inl e ↦ omega (arith, xs_here r u rest e) | inr n ↦ omega (arith, xs_not_here r u rest n, more.0) ],
      elim (cases_eq u.o r) [ inl e ↦ omega (arith, os_here r u rest e) | inr n ↦ omega (arith, os_not_here r u rest n, more.1) ],
    )

-- so the two columns have one colour, and their exchange leaves the list of colours as it is
shared_colour : (p : Bool → ℕ → ℕ → ℕ) (r c : ℕ) (cs : List Column) → IsSharing r c cs → row_at p r r cs ≡ true → xs_in r cs ≡ 1 → os_in r cs ≡ 1
    → (neighbours_traded c (ys_of cs) ≡ ys_of cs)
shared_colour p r zero [] is row ex eo = absurd is
shared_colour p r zero (u ∷ []) is row ex eo = absurd is
shared_colour p r zero (u ∷ v ∷ rest) is row ex eo =
    let eu : ends r u ≡ true = elim is [ inl h ↦ ends_cross r u h.0 | inr h ↦ ends_ring r u h.0 ] in
    let ev : ends r v ≡ true = elim is [ inl h ↦ ends_ring r v h.1 | inr h ↦ ends_cross r v h.1 ] in
    let same : u.y ≡ v.y = eqb-true u.y v.y (sym (row_end p r r u (v ∷ rest) eu ∙ on_end p r r u.y v rest ev) ∙ row) in
    ap₂ (λ y z. y ∷ z ∷ ys_of rest) (sym same) same
shared_colour p r (suc c) [] is row ex eo = absurd is
shared_colour p r (suc c) (u ∷ rest) is row ex eo =
    let more = shared_marks r c rest is in
    let n : u.x ≢ r = λ e. omega (arith, xs_here r u rest e, more.0) in
    let m : u.o ≢ r = λ e. omega (arith, os_here r u rest e, more.1) in
    ap (λ l. u.y ∷ l) (shared_colour p r c rest is (sym (row_apart p r r u rest (ends_apart r u n m)) ∙ row) (sym (xs_not_here r u rest n) ∙ ex)
    (sym (os_not_here r u rest m) ∙ eo))

slid_walks : (p : Bool → ℕ → ℕ → ℕ) → Acts p → (front : List Column) (c : ℕ) (cs : List Column) → neighbours_traded c (ys_of cs) ≡ ys_of cs → (r : ℕ)
    → row_at p r r (front ++ neighbours_traded c cs) ≡ row_at p r r (front ++ cs)
slid_walks p acts front zero [] e r = refl
slid_walks p acts front zero (u ∷ []) e r = refl
slid_walks p acts front zero (u ∷ v ∷ rest) e r =
    let same : v.y ≡ u.y = cc in
    (alike_behind p r r front (v ∷ u ∷ rest) (u ∷ v ∷ rest) (alike_equal p acts r v u rest same)).row
slid_walks p acts front (suc c) [] e r = refl
slid_walks p acts front (suc c) (u ∷ cs) e r =
    let more : neighbours_traded c (ys_of cs) ≡ ys_of cs = cc in
    ap (row_at p r r) (sym (append_assoc front (u ∷ []) (neighbours_traded c cs))) ∙ slid_walks p acts (front ++ u ∷ []) c cs more r
    ∙ ap (row_at p r r) (append_assoc front (u ∷ []) cs)

-- marks and colours of traded columns
pub traded_of : (f : Column → ℕ) (c : ℕ) (cs : List Column) → map f (neighbours_traded c cs) ≡ neighbours_traded c (map f cs)
traded_of f zero [] = refl
traded_of f zero (u ∷ []) = refl
traded_of f zero (u ∷ v ∷ rest) = refl
traded_of f (suc c) [] = refl
traded_of f (suc c) (u ∷ cs) = ap (λ l. f u ∷ l) (traded_of f c cs)

traded_columns_twice : (c : ℕ) (cs : List Column) → neighbours_traded c (neighbours_traded c cs) ≡ cs
traded_columns_twice zero [] = refl
traded_columns_twice zero (u ∷ []) = refl
traded_columns_twice zero (u ∷ v ∷ rest) = refl
traded_columns_twice (suc c) [] = refl
traded_columns_twice (suc c) (u ∷ cs) = ap (λ l. u ∷ l) (traded_columns_twice c cs)

sharing_again : (r c : ℕ) (cs : List Column) → IsSharing r c cs → IsSharing r c (neighbours_traded c cs)
sharing_again r zero [] is = is
sharing_again r zero (u ∷ []) is = is
sharing_again r zero (u ∷ v ∷ rest) is = elim is [ inl h ↦ inr (h.1, h.0) | inr h ↦ inl (h.1, h.0) ]
sharing_again r (suc c) [] is = is
sharing_again r (suc c) (u ∷ cs) is = sharing_again r c cs is

same_sharing : (r c : ℕ) (cs bs : List Column) → xs_of cs ≡ xs_of bs → os_of cs ≡ os_of bs → IsSharing r c cs → IsSharing r c bs
same_sharing r zero [] bs ex eo is = absurd is
same_sharing r zero (u ∷ []) bs ex eo is = absurd is
same_sharing r zero (u ∷ v ∷ cs) [] ex eo is = absurd (cc)
same_sharing r zero (u ∷ v ∷ cs) (b ∷ []) ex eo is =
    let no_more : v.x ∷ xs_of cs ≡ [] = cc in
    absurd (cc)
same_sharing r zero (u ∷ v ∷ cs) (b ∷ d ∷ bs) ex eo is =
    let ux : u.x ≡ b.x = cc in
    let uo : u.o ≡ b.o = cc in
    let vx : v.x ≡ d.x = cc in
    let vo : v.o ≡ d.o = cc in
    elim is [ inl h ↦ inl (sym ux ∙ h.0, sym vo ∙ h.1) | inr h ↦ inr (sym uo ∙ h.0, sym vx ∙ h.1) ]
same_sharing r (suc c) [] bs ex eo is = absurd is
same_sharing r (suc c) (u ∷ cs) [] ex eo is = absurd (cc)
same_sharing r (suc c) (u ∷ cs) (b ∷ bs) ex eo is = same_sharing r c cs bs (cc) (cc) is

all_traded : (b c : ℕ) (ys : List ℕ) → All (λ m. m < b) ys → All (λ m. m < b) (neighbours_traded c ys)
all_traded b zero [] all = all
all_traded b zero (y ∷ []) all = all
all_traded b zero (y ∷ z ∷ ys) all =
    All-cons (λ m. m < b) z (y ∷ ys) (all 1 0 (omega arith)) (All-cons (λ m. m < b) y ys (all 0 0 (omega arith)) (λ k d lt. all (suc (suc k)) d (omega arith)))
all_traded b (suc c) [] all = all
all_traded b (suc c) (y ∷ ys) all =
    All-cons (λ m. m < b) y (neighbours_traded c ys) (all 0 0 (omega arith)) (all_traded b c ys (λ k d lt. all (suc k) d (omega arith)))

-- in a colouring of a grid whose columns c and c + 1 share a row, these have one colour
pub kept_colours : (t : Table) (g : Diagram) → IsGrid g → (r c : ℕ) → r < length g.x → IsSharing r c (bare g) → (cs : List Column) → IsMarked g cs
    → IsColoured (act t) (length g.x) cs
    → neighbours_traded c (ys_of cs) ≡ ys_of cs
kept_colours t g grid r c lt sharing cs marked coloured =
    let blank : IsMarked g (bare g) = marked_columns g (map (λ m. 0) g.x) grid (length-map g.x (λ m. 0)) in
    shared_colour (act t) r c cs (same_sharing r c (bare g) cs (blank.crosses ∙ sym marked.crosses) (blank.rings ∙ sym marked.rings) sharing)
    (sym (row_walk (act t) r cs) ∙ coloured.walks r lt) (coloured.crosses r lt) (coloured.rings r lt)

pub kept_list : (t : Table) (g : Diagram) → IsGrid g → (r c : ℕ) → r < length g.x → IsSharing r c (bare g) → (f : List ℕ) → IsColouringByColumns t g f
    → neighbours_traded c f ≡ f
kept_list t g grid r c lt sharing f colouring =
    let marked : IsMarked g (columns g.x g.o f) = marked_columns g f grid colouring.size in
    subst (λ (ys : List ℕ). neighbours_traded c ys ≡ ys) (ys_of_columns g.x g.o f grid.same colouring.size)
    (kept_colours t g grid r c lt sharing (columns g.x g.o f) marked (coloured_of (act t) g (columns g.x g.o f) grid marked colouring.walks))

one_of_two : (c : ℕ) (ys : List ℕ) → suc c < length ys → neighbours_traded c ys ≡ ys → slice_index ys c ≡ slice_index ys (suc c)
one_of_two zero [] lt e = absurd (omega arith)
one_of_two zero (y ∷ []) lt e = absurd (omega arith)
one_of_two zero (y ∷ z ∷ ys) lt e = cc
one_of_two (suc c) [] lt e = absurd (omega arith)
one_of_two (suc c) (y ∷ ys) lt e = one_of_two c ys (omega (arith, lt)) (cc)

pub one_colour : (t : Table) (g : Diagram) → IsGrid g → (r c : ℕ) → r < length g.x → IsSharing r c (bare g) → (f : List ℕ) → IsColouringByColumns t g f
    → suc c < length g.x → slice_index f c ≡ slice_index f (suc c)
one_colour t g grid r c lt sharing f colouring inside = one_of_two c f (omega (arith, inside, colouring.size)) (kept_list t g grid r c lt sharing f colouring)

-- a slide of columns: every column of the list keeps its colour
pub columns_slid : (t : Table) → IsQuandle t → (g h : Diagram) → IsGrid g → IsGrid h → (r c : ℕ) → r < length g.x → IsSharing r c (bare g)
    → h.x ≡ neighbours_traded c g.x → h.o ≡ neighbours_traded c g.o
    → AreInverse (IsColouringByColumns t g) (IsColouringByColumns t h) (λ c. c) (λ d. d)
columns_slid t q g h grid grid' r c lt sharing hx ho =
    let acts = act_acts t q in
    let size : length h.x ≡ length g.x = ap length hx ∙ length_traded c g.x in
    let gx : neighbours_traded c h.x ≡ g.x = ap (neighbours_traded c) hx ∙ traded_marks_twice c g.x in
    let go : neighbours_traded c h.o ≡ g.o = ap (neighbours_traded c) ho ∙ traded_marks_twice c g.o in
    let blank : IsMarked g (bare g) = marked_columns g (map (λ m. 0) g.x) grid (length-map g.x (λ m. 0)) in
    let here : (cs : List Column) → IsMarked g cs → IsSharing r c cs = λ cs marked. same_sharing r c (bare g) cs (blank.crosses ∙ sym marked.crosses)
    (blank.rings ∙ sym marked.rings) sharing in
    let goes : (cs : List Column) → IsMarked g cs → IsMarked h (neighbours_traded c cs) = λ cs marked. record {
      crosses = traded_of (λ (l : Column). l.x) c cs ∙ ap (neighbours_traded c) marked.crosses ∙ sym hx;
      rings = traded_of (λ (l : Column). l.o) c cs ∙ ap (neighbours_traded c) marked.rings ∙ sym ho;
    } in
    let comes : (ds : List Column) → IsMarked h ds → IsMarked g (neighbours_traded c ds) = λ ds marked. record {
      crosses = traded_of (λ (l : Column). l.x) c ds ∙ ap (neighbours_traded c) marked.crosses ∙ gx;
      rings = traded_of (λ (l : Column). l.o) c ds ∙ ap (neighbours_traded c) marked.rings ∙ go;
    } in
    let there : (ds : List Column) → IsMarked h ds → IsSharing r c ds = λ ds marked.
    subst (IsSharing r c) (traded_columns_twice c ds) (sharing_again r c (neighbours_traded c ds) (here (neighbours_traded c ds) (comes ds marked))) in
    let kept : (cs : List Column) → IsMarked g cs → IsColoured (act t) (length g.x) cs → neighbours_traded c (ys_of cs) ≡ ys_of cs =
    kept_colours t g grid r c lt sharing in
    let kept' : (ds : List Column) → IsMarked h ds → IsColoured (act t) (length h.x) ds → neighbours_traded c (ys_of ds) ≡ ys_of ds = λ ds marked coloured.
    let lt' : r < length h.x = omega (arith, lt, size) in
    shared_colour (act t) r c ds (there ds marked) (sym (row_walk (act t) r ds) ∙ coloured.walks r lt') (coloured.crosses r lt') (coloured.rings r lt') in
    let carried : IsCarried t g h (neighbours_traded c) (neighbours_traded c) = record {
      goes = goes;
      comes = comes;
      walks = λ cs marked coloured s ls. row_walk (act t) s (neighbours_traded c cs) ∙ slid_walks (act t) acts [] c cs (kept cs marked coloured) s
          ∙ sym (row_walk (act t) s cs) ∙ coloured.walks s (omega (arith, ls, size));
      walks_back = λ ds marked coloured s ls. row_walk (act t) s (neighbours_traded c ds) ∙ slid_walks (act t) acts [] c ds (kept' ds marked coloured) s
          ∙ sym (row_walk (act t) s ds) ∙ coloured.walks s (omega (arith, ls, size));
      below = λ cs marked all. subst (All (λ y. y < t.order)) (sym (traded_of (λ (l : Column). l.y) c cs)) (all_traded t.order c (ys_of cs) all);
      below_back = λ ds marked all. subst (All (λ y. y < t.order)) (sym (traded_of (λ (l : Column). l.y) c ds)) (all_traded t.order c (ys_of ds) all);
      there = λ cs marked coloured. traded_columns_twice c cs;
      again = λ ds marked coloured. traded_columns_twice c ds;
    } in
    bijection_same (IsColouringByColumns t g) (IsColouringByColumns t h) (λ c'. ys_of (neighbours_traded c (columns g.x g.o c')))
    (λ d. ys_of (neighbours_traded c (columns h.x h.o d))) (λ c. c) (λ d. d)
    (bijection_of t g h (neighbours_traded c) (neighbours_traded c) grid grid' carried)
    (λ c' colouring.
    let marked : IsMarked g (columns g.x g.o c') = marked_columns g c' grid colouring.size in
    traded_of (λ (l : Column). l.y) c (columns g.x g.o c')
    ∙ kept (columns g.x g.o c') marked (coloured_of (act t) g (columns g.x g.o c') grid marked colouring.walks)
    ∙ ys_of_columns g.x g.o c' grid.same colouring.size)
    (λ d colouring.
    let marked : IsMarked h (columns h.x h.o d) = marked_columns h d grid' colouring.size in
    traded_of (λ (l : Column). l.y) c (columns h.x h.o d)
    ∙ kept' (columns h.x h.o d) marked (coloured_of (act t) h (columns h.x h.o d) grid' marked colouring.walks)
    ∙ ys_of_columns h.x h.o d grid'.same colouring.size)
