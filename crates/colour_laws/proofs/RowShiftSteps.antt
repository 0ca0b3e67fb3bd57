-- The shift of rows: from the step and the table to the lists of the laws.
use Rattle.std.proofs.Common.{◌≡◌, ◌∙◌, ◌<◌, ◌≤◌, ◌+◌, ◌-◌, ℕ, zero, suc, List, length, drop, ap, ap₂, sym, refl, subst, arith, cond}
use Rattle.std.specs.Prelude.{Bool, true, false, slice_index, nat_lt, ◌&&◌}
use Rattle.std.proofs.Math.Bool.{not}
use Rattle.std.proofs.lemmas.List.{length-drop, length-map, get_or-drop}
use Rattle.std.proofs.lemmas.List.Elements.{All-get_or}
use Rattle.std.proofs.lemmas.Bool.{lt-ltb, le-ltb, and_left, cond-true, cond-false}
use Rattle.grid_core.specs.Diagram.{Diagram, IsGrid, size}
use Rattle.grid_core.specs.Span.{lies_within}
use Rattle.grid_core.specs.Parts.{ends, is_up}
use Rattle.grid_moves.specs.declared.step.Move.TheVariants.{ShiftRows}
use Rattle.grid_moves.specs.Step.{Step}
use Rattle.grid_moves.proofs.OneResult.{step_moved}
use Rattle.grid_moves.proofs.Shifted.{rows_shifted-grid}
use Rattle.quandle_core.specs.Quandle.{Table, IsQuandle}
use Rattle.colour_rows.specs.Walk.{passed_leftward}
use Rattle.colour_rows.specs.Colouring.{IsColouring}
use Rattle.quandle_core.specs.Bijection.{IsBijection}
use Rattle.colour_laws.specs.Carried.{carried, bottom_row_shifted, rows_shifted, after_row_shift}
use Rattle.colour_laws.proofs.ColumnLists.{Column, recoloured, recoloured_on}
use Rattle.colour_laws.proofs.ColouredColumns.{IsColouringByColumns, AreInverse, act, columns, ys_of, fallen, fallen_colours, rows_carry, rows_return}
use Rattle.colour_laws.proofs.LoweredMarks.{recoloured_on_end, recoloured_on_apart}
use Rattle.colour_laws.proofs.RowShifts.{recoloured_end, recoloured_apart, marks_recoloured}
use Rattle.colour_laws.proofs.RowShifts as lists
use Rattle.colour_laws.proofs.Marked.{ys_of_columns, xs_of_columns}
use Rattle.colour_laws.proofs.ByIndex.{is_by_column, coloured_at, columns_from, columns_next}
use Rattle.colour_laws.proofs.ByPlaces.{fallen_crosses, fallen_rings}
use Rattle.colour_laws.proofs.RowEnds.{AreEnds, are_ends, is_end}
use Rattle.colour_laws.proofs.Bijections.{bijection_from}
use Rattle.colour_laws.proofs.ColumnExchangeSteps.{fro_same}

-- the colours of the columns from a place on
ys_from : (d : Diagram) (f : List ℕ) → length d.o ≡ length d.x → length f ≡ length d.x → (i : ℕ) → ys_of (columns_from i d.x d.o f) ≡ drop i f
ys_from d f rings size i =
    ys_of_columns (drop i d.x) (drop i d.o) (drop i f) (omega (arith, length-drop i d.x, length-drop i d.o, rings))
    (omega (arith, length-drop i d.x, length-drop i f, size))

-- behind the left end, up to the right end
on_place : (p : Bool → ℕ → ℕ → ℕ) (d : Diagram) (f : List ℕ) → length d.o ≡ length d.x → length f ≡ length d.x → AreEnds d 0 → (up : Bool) (a m i j : ℕ)
    → i + m ≡ (ends d 0).high → (ends d 0).low < i → i + j < length d.x
    → slice_index (ys_of (recoloured_on p up a (columns_from i d.x d.o f))) j ≡ cond (nat_lt (i + j) (ends d 0).high) (p up a (slice_index f (i + j)))
    (slice_index f (i + j))
on_place p d f rings size known up a zero i j e low lt =
    let at : i ≡ (ends d 0).high = omega (arith, e) in
    let next = columns_next i d.x d.o f rings size (omega (arith, lt)) in
    let here : is_end d 0 i ≡ true = ap (is_end d 0) at ∙ known.right in
    ap (λ l. slice_index (ys_of (recoloured_on p up a l)) j) next
    ∙ (ap (λ l. slice_index (ys_of l) j) (recoloured_on_end p up a (coloured_at i d.x d.o f) (columns_from (suc i) d.x d.o f) here)
    ∙ (ap (λ l. slice_index (ys_of l) j) (sym next)
    ∙ (ap (λ l. slice_index l j) (ys_from d f rings size i)
    ∙ (get_or-drop i f j 0
    ∙ sym (cond-false (nat_lt (i + j) (ends d 0).high) (p up a (slice_index f (i + j))) (slice_index f (i + j))
    (le-ltb (i + j) (ends d 0).high (omega (arith, e))))))))
on_place p d f rings size known up a (suc m) i zero e low lt =
    let next = columns_next i d.x d.o f rings size (omega (arith, lt)) in
    let apart : is_end d 0 i ≡ false = known.others i (omega (arith, lt)) (λ k. omega (arith, k, low)) (λ k. omega (arith, k, e)) in
    let here : i ≡ i + 0 = omega arith in
    ap (λ l. slice_index (ys_of (recoloured_on p up a l)) 0) next
    ∙ (ap (λ l. slice_index (ys_of l) 0) (recoloured_on_apart p up a (coloured_at i d.x d.o f) (columns_from (suc i) d.x d.o f) apart)
    ∙ (ap (λ k. p up a (slice_index f k)) here
    ∙ sym (cond-true (nat_lt (i + 0) (ends d 0).high) (p up a (slice_index f (i + 0))) (slice_index f (i + 0))
    (lt-ltb (i + 0) (ends d 0).high (omega (arith, e))))))
on_place p d f rings size known up a (suc m) i (suc j) e low lt =
    let next = columns_next i d.x d.o f rings size (omega (arith, lt)) in
    let apart : is_end d 0 i ≡ false = known.others i (omega (arith, lt)) (λ k. omega (arith, k, low)) (λ k. omega (arith, k, e)) in
    let here : suc i + j ≡ i + suc j = omega arith in
    ap (λ l. slice_index (ys_of (recoloured_on p up a l)) (suc j)) next
    ∙ (ap (λ l. slice_index (ys_of l) (suc j)) (recoloured_on_apart p up a (coloured_at i d.x d.o f) (columns_from (suc i) d.x d.o f) apart)
    ∙ (on_place p d f rings size known up a m (suc i) j (omega (arith, e)) (omega (arith, low)) (omega (arith, lt))
    ∙ ap (λ k. cond (nat_lt k (ends d 0).high) (p up a (slice_index f k)) (slice_index f k)) here))

-- what the shift of rows by one makes of the colour at a place
abbrev new_colour : (Bool → ℕ → ℕ → ℕ) → (Bool → Bool) → Diagram → List ℕ → ℕ → ℕ
new_colour p turn d f i = cond (lies_within (ends d 0) i) (p (turn (is_up d (ends d 0).low)) (slice_index f (ends d 0).low) (slice_index f i)) (slice_index f i)

outside : (p : Bool → ℕ → ℕ → ℕ) (turn : Bool → Bool) (d : Diagram) (f : List ℕ) (i : ℕ) → i ≤ (ends d 0).low → new_colour p turn d f i ≡ slice_index f i
outside p turn d f i le =
    cond-false (lies_within (ends d 0) i) (p (turn (is_up d (ends d 0).low)) (slice_index f (ends d 0).low) (slice_index f i)) (slice_index f i)
    (and_left (nat_lt (ends d 0).low i) (nat_lt i (ends d 0).high) (le-ltb (ends d 0).low i le))

behind : (p : Bool → ℕ → ℕ → ℕ) (turn : Bool → Bool) (d : Diagram) (f : List ℕ) (i : ℕ) → (ends d 0).low < i
    → new_colour p turn d f i ≡ cond (nat_lt i (ends d 0).high) (p (turn (is_up d (ends d 0).low)) (slice_index f (ends d 0).low) (slice_index f i))
    (slice_index f i)
behind p turn d f i lt =
    ap (λ b. cond (b && nat_lt i (ends d 0).high) (p (turn (is_up d (ends d 0).low)) (slice_index f (ends d 0).low) (slice_index f i)) (slice_index f i))
    (lt-ltb (ends d 0).low i lt)

-- from a place left of the left end on
row_place : (p : Bool → ℕ → ℕ → ℕ) (turn : Bool → Bool) (d : Diagram) (f : List ℕ) → length d.o ≡ length d.x → length f ≡ length d.x → AreEnds d 0 → (k i j : ℕ)
    → i + k ≡ (ends d 0).low → i + j < length d.x
    → slice_index (ys_of (recoloured p turn (columns_from i d.x d.o f))) j ≡ new_colour p turn d f (i + j)
row_place p turn d f rings size known zero i zero e lt =
    let at : i ≡ (ends d 0).low = omega (arith, e) in
    let next = columns_next i d.x d.o f rings size (omega (arith, lt)) in
    let here : is_end d 0 i ≡ true = ap (is_end d 0) at ∙ known.left in
    ap (λ l. slice_index (ys_of (recoloured p turn l)) 0) next
    ∙ (ap (λ l. slice_index (ys_of l) 0) (recoloured_end p turn (coloured_at i d.x d.o f) (columns_from (suc i) d.x d.o f) here)
    ∙ (ap (slice_index f) (let k : i ≡ i + 0 = omega arith in k) ∙ sym (outside p turn d f (i + 0) (omega (arith, at)))))
row_place p turn d f rings size known zero i (suc j) e lt =
    let at : i ≡ (ends d 0).low = omega (arith, e) in
    let next = columns_next i d.x d.o f rings size (omega (arith, lt)) in
    let here : is_end d 0 i ≡ true = ap (is_end d 0) at ∙ known.left in
    let place : suc i + j ≡ i + suc j = omega arith in
    ap (λ l. slice_index (ys_of (recoloured p turn l)) (suc j)) next
    ∙ (ap (λ l. slice_index (ys_of l) (suc j)) (recoloured_end p turn (coloured_at i d.x d.o f) (columns_from (suc i) d.x d.o f) here)
    ∙ (ap (λ k. slice_index (ys_of (recoloured_on p (turn (is_up d k)) (slice_index f k) (columns_from (suc i) d.x d.o f))) j) at
    ∙ (on_place p d f rings size known (turn (is_up d (ends d 0).low)) (slice_index f (ends d 0).low) ((ends d 0).high - suc i) (suc i) j
    (omega (arith, at, known.ordered)) (omega (arith, at)) (omega (arith, lt))
    ∙ (ap (λ k. cond (nat_lt k (ends d 0).high) (p (turn (is_up d (ends d 0).low)) (slice_index f (ends d 0).low) (slice_index f k)) (slice_index f k)) place
    ∙ sym (behind p turn d f (i + suc j) (omega (arith, at)))))))
row_place p turn d f rings size known (suc k) i zero e lt =
    let next = columns_next i d.x d.o f rings size (omega (arith, lt)) in
    let apart : is_end d 0 i ≡ false = known.others i (omega (arith, lt)) (λ h. omega (arith, h, e)) (λ h. omega (arith, h, e, known.ordered)) in
    ap (λ l. slice_index (ys_of (recoloured p turn l)) 0) next
    ∙ (ap (λ l. slice_index (ys_of l) 0) (recoloured_apart p turn (coloured_at i d.x d.o f) (columns_from (suc i) d.x d.o f) apart)
    ∙ (ap (slice_index f) (let h : i ≡ i + 0 = omega arith in h) ∙ sym (outside p turn d f (i + 0) (omega (arith, e)))))
row_place p turn d f rings size known (suc k) i (suc j) e lt =
    let next = columns_next i d.x d.o f rings size (omega (arith, lt)) in
    let apart : is_end d 0 i ≡ false = known.others i (omega (arith, lt)) (λ h. omega (arith, h, e)) (λ h. omega (arith, h, e, known.ordered)) in
    ap (λ l. slice_index (ys_of (recoloured p turn l)) (suc j)) next
    ∙ (ap (λ l. slice_index (ys_of l) (suc j)) (recoloured_apart p turn (coloured_at i d.x d.o f) (columns_from (suc i) d.x d.o f) apart)
    ∙ (row_place p turn d f rings size known k (suc i) j (omega (arith, e)) (omega (arith, lt))
    ∙ ap (new_colour p turn d f) (let h : suc i + j ≡ i + suc j = omega arith in h)))

-- the shift by one, place by place
pub bottom_row_is : (t : Table) (d : Diagram) → IsGrid d → (c : List ℕ) → IsColouringByColumns t d c → fallen_colours t d c ≡ bottom_row_shifted t d c
bottom_row_is t d grid c colouring =
    let known = are_ends d grid 0 (omega (arith, grid.least)) in
    let long : length (fallen_colours t d c) ≡ size d =
    length-map (recoloured (act t) not (columns d.x d.o c)) (λ (l : Column). l.y)
    ∙ sym (length-map (recoloured (act t) not (columns d.x d.o c)) (λ (l : Column). l.x))
    ∙ ap length ((marks_recoloured (act t) not (columns d.x d.o c)).0 ∙ xs_of_columns d.x d.o c grid.same colouring.size) in
    let colour : (i : ℕ) → i < size d → slice_index c i < t.order = λ i lt. All-get_or (λ y. y < t.order) c i 0
    (omega (arith, colouring.size, lt)) colouring.below in
    is_by_column (size d) (λ i. cond (lies_within (ends d 0) i) (passed_leftward t (is_up d (ends d 0).low) (slice_index c i) (slice_index c (ends d 0).low))
    (slice_index c i)) (fallen_colours t d c) long
    (λ i lt. row_place (act t) not d c grid.same colouring.size known (ends d 0).low 0 i (omega arith) (omega (arith, lt))
    ∙ (ap (new_colour (act t) not d c) (let h : 0 + i ≡ i = omega arith in h)
    ∙ ap (λ y. cond (lies_within (ends d 0) i) y (slice_index c i))
    (fro_same t (is_up d (ends d 0).low) (slice_index c (ends d 0).low) (slice_index c i) (colour (ends d 0).low (omega (arith, known.ordered, known.within)))
    (colour i lt))))

-- the diagram of each moment
pub fallen_is : (d : Diagram) → IsGrid d → (k : ℕ) → k ≤ size d → fallen k d ≡ after_row_shift k d
fallen_is d grid k le = ap₂ (λ x o. record { x = x; o = o }) (fallen_crosses d grid k le) (fallen_rings d grid k le)

pub fallen_grid : (d : Diagram) → IsGrid d → (k : ℕ) → k < size d → IsGrid (fallen k d)
fallen_grid d grid zero lt = grid
fallen_grid d grid (suc k) lt = subst IsGrid (sym (fallen_is d grid (suc k) (omega (arith, lt)))) (rows_shifted-grid (suc k) d grid (omega arith) lt)

pub fallen_inverse : (t : Table) → IsQuandle t → (d : Diagram) → IsGrid d → (k : ℕ) → k < size d
    → AreInverse (IsColouringByColumns t d) (IsColouringByColumns t (fallen k d)) (rows_carry t k d) (rows_return t k d)
fallen_inverse t q d grid k lt = lists.rows_shifted t q d k (λ j le. fallen_grid d grid j (omega (arith, le, lt)))

-- the shift by k, each shift by one with the diagram of that moment
pub rows_shifted_is : (t : Table) → IsQuandle t → (d : Diagram) → IsGrid d → (c : List ℕ) → IsColouringByColumns t d c → (k : ℕ) → k ≤ size d
    → rows_carry t k d c ≡ rows_shifted t k d c
rows_shifted_is t q d grid c colouring zero le = refl
rows_shifted_is t q d grid c colouring (suc k) le =
    let lt : k < size d = omega (arith, le) in
    bottom_row_is t (fallen k d) (fallen_grid d grid k lt) (rows_carry t k d c) ((fallen_inverse t q d grid k lt).goes c colouring)
    ∙ ap₂ (λ e ys. bottom_row_shifted t e ys) (fallen_is d grid k (omega (arith, le))) (rows_shifted_is t q d grid c colouring k (omega (arith, le)))

pub shift_of_rows : (t : Table) → IsQuandle t → (d e : Diagram) (k : ℕ) → Step d (ShiftRows k) e
    → IsBijection (IsColouring t d) (IsColouring t e) (carried t d (ShiftRows k))
shift_of_rows t q d e k step =
    let lt : k < size d = step.marks.most in
    let same : fallen k d ≡ e = fallen_is d step.before k (omega (arith, lt)) ∙ sym (step_moved d (ShiftRows k) e step) in
    bijection_from t q d e step.before step.after (rows_carry t k d) (rows_return t k d) (carried t d (ShiftRows k))
    (subst (λ (f : Diagram). AreInverse (IsColouringByColumns t d) (IsColouringByColumns t f) (rows_carry t k d) (rows_return t k d)) same
    (fallen_inverse t q d step.before k lt))
    (λ c colouring. rows_shifted_is t q d step.before c colouring k (omega (arith, lt)))
