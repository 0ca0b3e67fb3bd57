-- The shift of columns, as a bijection of colourings.
use Rattle.std.proofs.Common.{◌≡◌, ◌∙◌, ◌<◌, ◌≤◌, ◌-◌, ◌++◌, ℕ, List, map, length, take, drop, ap, ap₂, sym, arith, subst, length-append}
use Rattle.std.specs.List.{All}
use Rattle.std.proofs.lemmas.List.{take-append-drop, map-append, take-map, drop-map, length-map}
use Rattle.std.proofs.lemmas.List.Elements.{All-take, All-drop, All-append}
use Rattle.std.proofs.Math.Seq.{drop-append_seam, take-append_seam}
use Rattle.std.proofs.Math.ListN.{length-drop}
use Rattle.grid_core.specs.Diagram.{Diagram, IsGrid}
use Rattle.colour_laws.proofs.ColumnLists.{Column, IsColoured}
use Rattle.quandle_core.specs.Quandle.{Table, IsQuandle}
use Rattle.colour_laws.proofs.ColouredColumns.{act, columns, ys_of, IsColouringByColumns, AreInverse, turned}
use Rattle.colour_laws.proofs.Tables.{act_acts}
use Rattle.colour_laws.proofs.ShiftColumns.{turned_parts}
use Rattle.colour_laws.proofs.Marked.{IsCarried, bijection_of, ys_of_columns}

pub turned_map : {A B : Type 0} (f : A → B) (k : ℕ) (xs : List A) → map f (turned k xs) ≡ turned k (map f xs)
turned_map f k xs = map-append f (drop k xs) (take k xs) ∙ ap₂ (λ a b. a ++ b) (sym (drop-map f k xs)) (sym (take-map f k xs))

pub turned_back : {A : Type 0} (k : ℕ) (xs : List A) → k ≤ length xs → turned (length xs - k) (turned k xs) ≡ xs
turned_back k xs le =
    let size : length (drop k xs) ≡ length xs - k = length-drop k xs in
    ap₂ (λ a b. a ++ b)
    (subst (λ (n : ℕ). drop n (drop k xs ++ take k xs) ≡ take k xs) size (drop-append_seam (drop k xs) (take k xs)))
    (subst (λ (n : ℕ). take n (drop k xs ++ take k xs) ≡ drop k xs) size (take-append_seam (drop k xs) (take k xs)))
    ∙ take-append-drop k xs

-- the same bijection, told by other functions
pub bijection_same : (P Q : List ℕ → Type 0) (go come go' come' : List ℕ → List ℕ) → AreInverse P Q go come
    → ((c : List ℕ) → P c → go c ≡ go' c) → ((d : List ℕ) → Q d → come d ≡ come' d) → AreInverse P Q go' come'
bijection_same P Q go come go' come' b e f = record {
  goes = λ c h. subst Q (e c h) (b.goes c h);
  comes = λ d h. subst P (f d h) (b.comes d h);
  there = λ c h.
      let moved : Q (go' c) = subst Q (e c h) (b.goes c h) in
      sym (f (go' c) moved) ∙ ap come (sym (e c h)) ∙ b.there c h;
  again = λ d h.
      let moved : P (come' d) = subst P (f d h) (b.comes d h) in
      sym (e (come' d) moved) ∙ ap go (sym (f d h)) ∙ b.again d h;
}

pub bijection_then : (P Q R : List ℕ → Type 0) (go come go' come' : List ℕ → List ℕ) → AreInverse P Q go come → AreInverse Q R go' come'
    → AreInverse P R (λ c. go' (go c)) (λ d. come (come' d))
bijection_then P Q R go come go' come' a b = record {
  goes = λ c h. b.goes (go c) (a.goes c h);
  comes = λ d h. a.comes (come' d) (b.comes d h);
  there = λ c h. ap come (b.there (go c) (a.goes c h)) ∙ a.there c h;
  again = λ d h. ap go' (a.again (come' d) (b.comes d h)) ∙ b.again d h;
}

turned_coloured : (t : Table) → IsQuandle t → (n k : ℕ) (cs : List Column) → IsColoured (act t) n cs → IsColoured (act t) n (turned k cs)
turned_coloured t q n k cs coloured =
    turned_parts (act t) (act_acts t q) n (take k cs) (drop k cs) (subst (IsColoured (act t) n) (sym (take-append-drop k cs)) coloured)

turned_below : (b k : ℕ) (cs : List Column) → All (λ y. y < b) (ys_of cs) → All (λ y. y < b) (ys_of (turned k cs))
turned_below b k cs all =
    subst (All (λ y. y < b)) (sym (turned_map (λ (c : Column). c.y) k cs))
    (All-append (λ y. y < b) (drop k (ys_of cs)) (take k (ys_of cs)) (All-drop (λ y. y < b) k (ys_of cs) all) (All-take (λ y. y < b) k (ys_of cs) all))

pub length_turned : {A : Type 0} (k : ℕ) (xs : List A) → length (turned k xs) ≡ length xs
length_turned k xs = omega (arith, length-append (drop k xs) (take k xs), length-append (take k xs) (drop k xs), ap length (take-append-drop k xs))

-- the shift of the columns by k
pub columns_shifted : (t : Table) → IsQuandle t → (g h : Diagram) → IsGrid g → IsGrid h → (k : ℕ) → k ≤ length g.x → h.x ≡ turned k g.x → h.o ≡ turned k g.o
    → AreInverse (IsColouringByColumns t g) (IsColouringByColumns t h) (turned k) (turned (length g.x - k))
columns_shifted t q g h grid grid' k le hx ho =
    let n : ℕ = length g.x in
    let size : length h.x ≡ length g.x = ap length hx ∙ length_turned k g.x in
    let x_back : turned (length g.x - k) h.x ≡ g.x = ap (turned (length g.x - k)) hx ∙ turned_back k g.x le in
    let o_back : turned (length g.x - k) h.o ≡ g.o =
    ap (turned (length g.x - k)) ho ∙ ap (λ m. turned (m - k) (turned k g.o)) (sym grid.same) ∙ turned_back k g.o (omega (arith, grid.same, le)) in
    let carried : IsCarried t g h (turned k) (turned (length g.x - k)) = record {
      goes = λ cs marked. record {
        crosses = turned_map (λ (c : Column). c.x) k cs ∙ ap (turned k) marked.crosses ∙ sym hx;
        rings = turned_map (λ (c : Column). c.o) k cs ∙ ap (turned k) marked.rings ∙ sym ho;
      };
      comes = λ ds marked. record {
        crosses = turned_map (λ (c : Column). c.x) (length g.x - k) ds ∙ ap (turned (length g.x - k)) marked.crosses ∙ x_back;
        rings = turned_map (λ (c : Column). c.o) (length g.x - k) ds ∙ ap (turned (length g.x - k)) marked.rings ∙ o_back;
      };
      walks = λ cs marked coloured r lt. (turned_coloured t q (length g.x) k cs coloured).walks r (omega (arith, lt, size));
      walks_back = λ ds marked coloured r lt. (turned_coloured t q (length h.x) (length g.x - k) ds coloured).walks r (omega (arith, lt, size));
      below = λ cs marked all. turned_below t.order k cs all;
      below_back = λ ds marked all. turned_below t.order (length g.x - k) ds all;
      there = λ cs marked coloured.
          let m : length cs ≡ length g.x = sym (length-map cs (λ (c : Column). c.x)) ∙ ap length marked.crosses in
          subst (λ (m : ℕ). turned (m - k) (turned k cs) ≡ cs) m (turned_back k cs (omega (arith, m, le)));
      again = λ ds marked coloured.
          let m : length ds ≡ length g.x = sym (length-map ds (λ (c : Column). c.x)) ∙ ap length marked.crosses ∙ size in
          let e : length ds - (length g.x - k) ≡ k = omega (arith, m, le) in
          subst (λ (j : ℕ). turned j (turned (length g.x - k) ds) ≡ ds) e (turned_back (length g.x - k) ds (omega (arith, m, le)));
    } in
    bijection_same (IsColouringByColumns t g) (IsColouringByColumns t h) (λ c. ys_of (turned k (columns g.x g.o c)))
    (λ d. ys_of (turned (length g.x - k) (columns h.x h.o d))) (turned k) (turned (length g.x - k))
    (bijection_of t g h (turned k) (turned (length g.x - k)) grid grid' carried)
    (λ c colouring. turned_map (λ (l : Column). l.y) k (columns g.x g.o c) ∙ ap (turned k) (ys_of_columns g.x g.o c grid.same colouring.size))
    (λ d colouring. turned_map (λ (l : Column). l.y) (length g.x - k) (columns h.x h.o d)
    ∙ ap (turned (length g.x - k)) (ys_of_columns h.x h.o d grid'.same colouring.size))
