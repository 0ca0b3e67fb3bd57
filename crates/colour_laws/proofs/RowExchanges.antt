-- The exchange of neighbouring rows, as a bijection of colourings.
use Rattle.std.proofs.Common.{◌≡◌, ◌∙◌, ◌<◌, ℕ, suc, List, [], ◌∷◌, map, length, ap, ap₂, sym, refl, arith, inl, inr, subst}
use Rattle.std.specs.Prelude.{Bool, true, ◌==◌, ◌⊎◌}
use Rattle.std.specs.List.{All}
use Rattle.std.proofs.lemmas.List.{length-map}
use Rattle.std.proofs.lemmas.Bool.{cases_eq, eqb-true, eq-eqb}
use Rattle.grid_core.specs.Diagram.{Diagram, IsGrid}
use Rattle.colour_laws.proofs.ColumnLists.{Acts, Column, IsColoured, IsNested, IsDisjoint, relabel, swapped}
use Rattle.quandle_core.specs.Quandle.{Table, IsQuandle}
use Rattle.colour_laws.proofs.ColouredColumns.{act, columns, ys_of, IsColouringByColumns, AreInverse, IsMarked, place, across, AreRowsTradable}
use Rattle.colour_laws.proofs.Rows.{row_at, row_walk}
use Rattle.colour_laws.proofs.Relabel.{eq_lower, eq_upper, swapped_twice}
use Rattle.colour_laws.proofs.ExchangeRows.{rows_exchanged}
use Rattle.colour_laws.proofs.Tables.{act_acts}
use Rattle.colour_laws.proofs.Marked.{IsCarried, bijection_of, ys_of_columns}
use Rattle.colour_laws.proofs.ColumnShifts.{bijection_same}
use Rattle.colour_laws.proofs.RowShifts.{xs_of_relabel, os_of_relabel, ys_of_relabel}
use Rattle.colour_laws.proofs.Places.{place_here, place_later, together}
use Rattle.colour_laws.proofs.Exchanges.{disjoint_sym}

-- a row under another number has its marks where they were
place_relabel : (f : ℕ → ℕ) (r r' : ℕ) → ((x : ℕ) → (f x == r') ≡ (x == r)) → (ms : List ℕ) → place r' (map f ms) ≡ place r ms
place_relabel f r r' same [] = refl
place_relabel f r r' same (m ∷ ms) = elim (cases_eq m r) [
  | inl e ↦ place_here r' (f m) (map f ms) (eqb-true (f m) r' (same m ∙ eq-eqb m r e)) ∙ sym (place_here r m ms e)
  | inr n ↦
      place_later r' (f m) (map f ms) (λ e. n (eqb-true m r (sym (same m) ∙ eq-eqb (f m) r' e))) ∙ ap suc (place_relabel f r r' same ms)
      ∙ sym (place_later r m ms n)
]

pub map_twice : (r : ℕ) (ms : List ℕ) → map (swapped r) (map (swapped r) ms) ≡ ms
map_twice r [] = refl
map_twice r (m ∷ ms) = ap₂ (λ a l. a ∷ l) (swapped_twice r m) (map_twice r ms)

pub columns_twice : (r : ℕ) (cs : List Column) → map (relabel (swapped r)) (map (relabel (swapped r)) cs) ≡ cs
columns_twice r [] = refl
columns_twice r (c ∷ cs) =
    ap₂ (λ (a : Column) l. a ∷ l) (ap₂ (λ x o. record { x = x; o = o; y = c.y }) (swapped_twice r c.x) (swapped_twice r c.o)) (columns_twice r cs)

pub any_sym : (u v : Column) → IsNested u v ⊎ (IsNested v u ⊎ IsDisjoint u v) → IsNested v u ⊎ (IsNested u v ⊎ IsDisjoint v u)
any_sym u v any = elim any [ inl h ↦ inr (inl h) | inr (inl h) ↦ inl h | inr (inr h) ↦ inr (inr (disjoint_sym u v h)) ]

-- the exchanged columns are coloured
exchanged : (p : Bool → ℕ → ℕ → ℕ) → Acts p → (g : Diagram) (r : ℕ) (cs : List Column) → AreRowsTradable r g → IsMarked g cs → IsColoured p (length g.x) cs
    → IsColoured p (length g.x) (map (relabel (swapped r)) cs)
exchanged p acts g r cs tradable marked coloured =
    let high : suc r < length g.x = tradable.0 in
    let low : r < length g.x = omega arith in
    let row : row_at p r r cs ≡ true = sym (row_walk p r cs) ∙ coloured.walks r low in
    let row' : row_at p (suc r) (suc r) cs ≡ true = sym (row_walk p (suc r) cs) ∙ coloured.walks (suc r) high in
    rows_exchanged p acts (length g.x) r cs high
    (together p g r (suc r) cs marked row (coloured.crosses r low) (coloured.rings r low) (coloured.crosses (suc r) high)
    (coloured.rings (suc r) high) tradable.1)
    (together p g (suc r) r cs marked row' (coloured.crosses (suc r) high) (coloured.rings (suc r) high) (coloured.crosses r low) (coloured.rings r low)
    (any_sym (across r g) (across (suc r) g) tradable.1))
    coloured

-- an exchange of rows: every column keeps its colour
pub rows_traded : (t : Table) → IsQuandle t → (g h : Diagram) → IsGrid g → IsGrid h → (r : ℕ) → AreRowsTradable r g → h.x ≡ map (swapped r) g.x
    → h.o ≡ map (swapped r) g.o
    → AreInverse (IsColouringByColumns t g) (IsColouringByColumns t h) (λ c. c) (λ d. d)
rows_traded t q g h grid grid' r tradable hx ho =
    let acts = act_acts t q in
    let size : length h.x ≡ length g.x = ap length hx ∙ length-map g.x (swapped r) in
    let gx : map (swapped r) h.x ≡ g.x = ap (map (swapped r)) hx ∙ map_twice r g.x in
    let go : map (swapped r) h.o ≡ g.o = ap (map (swapped r)) ho ∙ map_twice r g.o in
    let low : across r h ≡ across (suc r) g =
    ap₂ (λ a b. record { x = a; o = b; y = 0 }) (ap (place r) hx ∙ place_relabel (swapped r) (suc r) r (eq_lower r) g.x)
    (ap (place r) ho ∙ place_relabel (swapped r) (suc r) r (eq_lower r) g.o) in
    let high : across (suc r) h ≡ across r g =
    ap₂ (λ a b. record { x = a; o = b; y = 0 }) (ap (place (suc r)) hx ∙ place_relabel (swapped r) r (suc r) (eq_upper r) g.x)
    (ap (place (suc r)) ho ∙ place_relabel (swapped r) r (suc r) (eq_upper r) g.o) in
    let Any : Column → Column → Type 0 = λ u v. IsNested u v ⊎ (IsNested v u ⊎ IsDisjoint u v) in
    let tradable' : AreRowsTradable r h = (
      omega (arith, tradable.0, size),
      subst (λ (u : Column). IsNested u (across (suc r) h) ⊎ (IsNested (across (suc r) h) u ⊎ IsDisjoint u (across (suc r) h))) (sym low)
          (subst (λ (v : Column). IsNested (across (suc r) g) v ⊎ (IsNested v (across (suc r) g) ⊎ IsDisjoint (across (suc r) g) v)) (sym high)
          (any_sym (across r g) (across (suc r) g) tradable.1)),
    ) in
    let carried : IsCarried t g h (map (relabel (swapped r))) (map (relabel (swapped r))) = record {
      goes = λ cs marked. record {
        crosses = xs_of_relabel (swapped r) cs ∙ ap (map (swapped r)) marked.crosses ∙ sym hx;
        rings =
            os_of_relabel (swapped r) cs ∙ ap (map (swapped r)) marked.rings ∙ sym ho;
      };
      comes = λ ds marked. record {
        crosses = xs_of_relabel (swapped r) ds ∙ ap (map (swapped r)) marked.crosses ∙ gx;
        rings =
            os_of_relabel (swapped r) ds ∙ ap (map (swapped r)) marked.rings ∙ go;
      };
      walks = λ cs marked coloured s lt. (exchanged (act t) acts g r cs tradable marked coloured).walks s (omega (arith, lt, size));
      walks_back = λ ds marked coloured s lt. (exchanged (act t) acts h r ds tradable' marked coloured).walks s (omega (arith, lt, size));
      below = λ cs marked all. subst (All (λ y. y < t.order)) (sym (ys_of_relabel (swapped r) cs)) all;
      below_back = λ ds marked all. subst (All (λ y. y < t.order)) (sym (ys_of_relabel (swapped r) ds)) all;
      there = λ cs marked coloured. columns_twice r cs;
      again = λ ds marked coloured. columns_twice r ds;
    } in
    bijection_same (IsColouringByColumns t g) (IsColouringByColumns t h) (λ c. ys_of (map (relabel (swapped r)) (columns g.x g.o c)))
    (λ d. ys_of (map (relabel (swapped r)) (columns h.x h.o d))) (λ c. c) (λ d. d)
    (bijection_of t g h (map (relabel (swapped r))) (map (relabel (swapped r))) grid grid' carried)
    (λ c colouring. ys_of_relabel (swapped r) (columns g.x g.o c) ∙ ys_of_columns g.x g.o c grid.same colouring.size)
    (λ d colouring. ys_of_relabel (swapped r) (columns h.x h.o d) ∙ ys_of_columns h.x h.o d grid'.same colouring.size)
