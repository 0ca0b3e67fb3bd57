-- From columns to colourings: what is proved of lists of columns gives a bijection of colourings.
use Rattle.std.proofs.Common.{◌≡◌, ◌∙◌, ◌<◌, ◌≤◌, ◌+◌, ℕ, suc, zero, List, [], ◌∷◌, length, ap, ap₂, sym, refl, arith, inl, inr, cond, subst}
use Rattle.std.specs.Prelude.{Bool, true, false, ◌==◌}
use Rattle.std.specs.List.{All, range_with_len, sum_by}
use Rattle.std.proofs.lemmas.List.{length-map}
use Rattle.std.proofs.lemmas.List.Sorted.{sum_by-IsPermutation}
use Rattle.std.proofs.lemmas.List.Recursion.{is_sum_by}
use Rattle.std.proofs.lemmas.Bool.{eq-eqb, ne_eqb, cases_eq, cases_order}
use Rattle.grid_core.specs.Diagram.{Diagram, IsGrid, IsOneEach}
use Rattle.grid_core.proofs.OneEach.{each_below}
use Rattle.colour_laws.proofs.ColumnLists.{Column, walk, xs_in, os_in, IsColoured, IsInside}
use Rattle.quandle_core.specs.Quandle.{Table}
use Rattle.colour_laws.proofs.ColouredColumns.{act, columns, xs_of, os_of, ys_of, IsColouringByColumns, AreInverse, IsMarked}

pub xs_of_columns : (xs os ys : List ℕ) → length os ≡ length xs → length ys ≡ length xs → xs_of (columns xs os ys) ≡ xs
xs_of_columns [] os ys e f = refl
xs_of_columns (x ∷ xs) [] ys e f = absurd (omega (arith, e))
xs_of_columns (x ∷ xs) (o ∷ os) [] e f = absurd (omega (arith, f))
xs_of_columns (x ∷ xs) (o ∷ os) (y ∷ ys) e f = ap (λ l. x ∷ l) (xs_of_columns xs os ys (omega (arith, e)) (omega (arith, f)))

pub os_of_columns : (xs os ys : List ℕ) → length os ≡ length xs → length ys ≡ length xs → os_of (columns xs os ys) ≡ os
os_of_columns [] [] ys e f = refl
os_of_columns [] (o ∷ os) ys e f = absurd (omega (arith, e))
os_of_columns (x ∷ xs) [] ys e f = absurd (omega (arith, e))
os_of_columns (x ∷ xs) (o ∷ os) [] e f = absurd (omega (arith, f))
os_of_columns (x ∷ xs) (o ∷ os) (y ∷ ys) e f = ap (λ l. o ∷ l) (os_of_columns xs os ys (omega (arith, e)) (omega (arith, f)))

pub ys_of_columns : (xs os ys : List ℕ) → length os ≡ length xs → length ys ≡ length xs → ys_of (columns xs os ys) ≡ ys
ys_of_columns [] os [] e f = refl
ys_of_columns [] os (y ∷ ys) e f = absurd (omega (arith, f))
ys_of_columns (x ∷ xs) [] ys e f = absurd (omega (arith, e))
ys_of_columns (x ∷ xs) (o ∷ os) [] e f = absurd (omega (arith, f))
ys_of_columns (x ∷ xs) (o ∷ os) (y ∷ ys) e f = ap (λ l. y ∷ l) (ys_of_columns xs os ys (omega (arith, e)) (omega (arith, f)))

pub columns_of : (cs : List Column) → columns (xs_of cs) (os_of cs) (ys_of cs) ≡ cs
columns_of [] = refl
columns_of (c ∷ cs) = ap (λ l. c ∷ l) (columns_of cs)

-- how often a number stands in a list
abbrev count_at : ℕ → List ℕ → ℕ
count_at r [] = 0
count_at r (m ∷ ms) = cond (m == r) (suc (count_at r ms)) (count_at r ms)

count_more : (t : Bool) (n : ℕ) → cond t (suc n) n ≡ cond t 1 0 + n
count_more true n = omega arith
count_more false n = omega arith

count_sum : (r : ℕ) (ms : List ℕ) → count_at r ms ≡ sum_by (λ m. cond (m == r) 1 0) ms
count_sum r ms = is_sum_by (count_at r) (λ m. cond (m == r) 1 0) refl (λ m ms. count_more (m == r) (count_at r ms)) ms

xs_count : (r : ℕ) (cs : List Column) → xs_in r cs ≡ count_at r (xs_of cs)
xs_count r [] = refl
xs_count r (c ∷ cs) = ap (λ m. cond (c.x == r) (suc m) m) (xs_count r cs)

os_count : (r : ℕ) (cs : List Column) → os_in r cs ≡ count_at r (os_of cs)
os_count r [] = refl
os_count r (c ∷ cs) = ap (λ m. cond (c.o == r) (suc m) m) (os_count r cs)

-- in a range a number stands once, and one below it never
range_none : (r a n : ℕ) → r < a → count_at r (range_with_len a n) ≡ 0
range_none r a zero lt = refl
range_none r a (suc n) lt =
    let t : (a == r) ≡ false = ne_eqb a r (λ e. omega arith) in
    rw t (range_none r (a + 1) n (omega arith))

range_once : (r a n : ℕ) → a ≤ r → r < a + n → count_at r (range_with_len a n) ≡ 1
range_once r a zero low high = absurd (omega arith)
range_once r a (suc n) low high = elim (cases_eq a r) [
  | inl e ↦
      let t : (a == r) ≡ true = eq-eqb a r e in
      rw t (ap suc (range_none r (a + 1) n (omega arith)))
  | inr m ↦
      let t : (a == r) ≡ false = ne_eqb a r m in
      let below : a + 1 ≤ r = elim (cases_order a r) [ inl e ↦ absurd (m e) | inr (inl l) ↦ omega arith | inr (inr l) ↦ absurd (omega arith) ] in
      rw t (range_once r (a + 1) n below (omega arith))
]

once : (n r : ℕ) (rows : List ℕ) → IsOneEach n rows → r < n → count_at r rows ≡ 1
once n r rows each lt =
    count_sum r rows ∙ sum_by-IsPermutation (λ m. cond (m == r) 1 0) (range_with_len 0 n) rows each
    ∙ sym (count_sum r (range_with_len 0 n)) ∙ range_once r 0 n (omega arith) (omega arith)

-- a grid's columns, with right walks
pub coloured_of : (p : Bool → ℕ → ℕ → ℕ) (g : Diagram) (cs : List Column) → IsGrid g → IsMarked g cs → ((r : ℕ) → r < length g.x → walk p r cs ≡ true)
    → IsColoured p (length g.x) cs
coloured_of p g cs grid marked walks = record {
  crosses = λ r lt. xs_count r cs ∙ ap (count_at r) marked.crosses ∙ once (length g.x) r g.x grid.crosses lt;
  rings = λ r lt. os_count r cs ∙ ap (count_at r) marked.rings ∙ once (length g.x) r g.o grid.rings lt;
  walks = walks;
}

pub marked_columns : (g : Diagram) (c : List ℕ) → IsGrid g → length c ≡ length g.x → IsMarked g (columns g.x g.o c)
marked_columns g c grid size = record { crosses = xs_of_columns g.x g.o c grid.same size; rings = os_of_columns g.x g.o c grid.same size }

pub columns_marked : (g : Diagram) (cs : List Column) → IsMarked g cs → columns g.x g.o (ys_of cs) ≡ cs
columns_marked g cs marked = ap₂ (λ x o. columns x o (ys_of cs)) (sym marked.crosses) (sym marked.rings) ∙ columns_of cs

-- what a move does to columns, with the way back
pub record IsCarried (t : Table) (g h : Diagram) (go come : List Column → List Column) : Type 0 where
  pub goes : (cs : List Column) → IsMarked g cs → IsMarked h (go cs)
  pub comes : (ds : List Column) → IsMarked h ds → IsMarked g (come ds)
  pub walks : (cs : List Column) → IsMarked g cs → IsColoured (act t) (length g.x) cs → (r : ℕ) → r < length h.x → walk (act t) r (go cs) ≡ true
  pub walks_back : (ds : List Column) → IsMarked h ds → IsColoured (act t) (length h.x) ds → (r : ℕ) → r < length g.x → walk (act t) r (come ds) ≡ true
  pub below : (cs : List Column) → IsMarked g cs → All (λ y. y < t.order) (ys_of cs) → All (λ y. y < t.order) (ys_of (go cs))
  pub below_back : (ds : List Column) → IsMarked h ds → All (λ y. y < t.order) (ys_of ds) → All (λ y. y < t.order) (ys_of (come ds))
  pub there : (cs : List Column) → IsMarked g cs → IsColoured (act t) (length g.x) cs → come (go cs) ≡ cs
  pub again : (ds : List Column) → IsMarked h ds → IsColoured (act t) (length h.x) ds → go (come ds) ≡ ds

-- one direction
forward : (t : Table) (g h : Diagram) (go : List Column → List Column) → IsGrid g
    → ((cs : List Column) → IsMarked g cs → IsMarked h (go cs))
    → ((cs : List Column) → IsMarked g cs → IsColoured (act t) (length g.x) cs → (r : ℕ) → r < length h.x → walk (act t) r (go cs) ≡ true)
    → ((cs : List Column) → IsMarked g cs → All (λ y. y < t.order) (ys_of cs) → All (λ y. y < t.order) (ys_of (go cs)))
    → (c : List ℕ) → IsColouringByColumns t g c → IsColouringByColumns t h (ys_of (go (columns g.x g.o c)))
forward t g h go grid goes walks below c colouring =
    let cs = columns g.x g.o c in
    let marked : IsMarked g (columns g.x g.o c) = marked_columns g c grid colouring.size in
    let moved : IsMarked h (go (columns g.x g.o c)) = goes (columns g.x g.o c) marked in
    let coloured = coloured_of (act t) g (columns g.x g.o c) grid marked colouring.walks in
    record {
      size =
          length-map (go (columns g.x g.o c)) (λ (l : Column). l.y) ∙ sym (length-map (go (columns g.x g.o c)) (λ (l : Column). l.x)) ∙ ap length moved.crosses;
      below = below (columns g.x g.o c) marked (subst (All (λ y. y < t.order)) (sym (ys_of_columns g.x g.o c grid.same colouring.size)) colouring.below);
      walks = λ r lt. ap (λ l. walk (act t) r l) (columns_marked h (go (columns g.x g.o c)) moved) ∙ walks (columns g.x g.o c) marked coloured r lt;
    }

pub bijection_of : (t : Table) (g h : Diagram) (go come : List Column → List Column) → IsGrid g → IsGrid h → IsCarried t g h go come
    → AreInverse (IsColouringByColumns t g) (IsColouringByColumns t h) (λ c. ys_of (go (columns g.x g.o c))) (λ d. ys_of (come (columns h.x h.o d)))
bijection_of t g h go come grid grid' carried = record {
  goes = forward t g h go grid carried.goes carried.walks carried.below;
  comes = forward t h g come grid' carried.comes carried.walks_back carried.below_back;
  there = λ c colouring.
      let marked : IsMarked g (columns g.x g.o c) = marked_columns g c grid colouring.size in
      let coloured = coloured_of (act t) g (columns g.x g.o c) grid marked colouring.walks in
      ap (λ l. ys_of (come l)) (columns_marked h (go (columns g.x g.o c)) (carried.goes (columns g.x g.o c) marked))
      ∙ ap ys_of (carried.there (columns g.x g.o c) marked coloured) ∙ ys_of_columns g.x g.o c grid.same colouring.size;
  again = λ d colouring.
      let marked : IsMarked h (columns h.x h.o d) = marked_columns h d grid' colouring.size in
      let coloured = coloured_of (act t) h (columns h.x h.o d) grid' marked colouring.walks in
      ap (λ l. ys_of (go l)) (columns_marked g (come (columns h.x h.o d)) (carried.comes (columns h.x h.o d) marked))
      ∙ ap ys_of (carried.again (columns h.x h.o d) marked coloured) ∙ ys_of_columns h.x h.o d grid'.same colouring.size;
}

-- a grid's marks are in its rows
inside_of : (n : ℕ) (cs : List Column) → All (λ r. r < n) (xs_of cs) → All (λ r. r < n) (os_of cs) → IsInside n cs
inside_of n [] ex eo = tt
inside_of n (c ∷ cs) ex eo =
    (ex 0 0 (omega arith), eo 0 0 (omega arith), inside_of n cs (λ k d lt. ex (suc k) d (omega arith)) (λ k d lt. eo (suc k) d (omega arith)))

pub inside : (g : Diagram) (cs : List Column) → IsGrid g → IsMarked g cs → IsInside (length g.x) cs
inside g cs grid marked = inside_of (length g.x) cs
    (subst (All (λ r. r < length g.x)) (sym marked.crosses) (each_below (length g.x) g.x grid.crosses))
    (subst (All (λ r. r < length g.x)) (sym marked.rings) (each_below (length g.x) g.o grid.rings))
