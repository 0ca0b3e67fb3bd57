-- The weight by rows is the total of the rows to the right less that of the rows to the left.
use Rattle.std.proofs.Common.{◌≡◌, ◌∙◌, ◌<◌, ◌+◌, ◌-◌, ◌%◌, ℕ, zero, suc, List, [], ◌∷◌, length, fold, ap, sym, subst, arith, inl, inr, cond}
use Rattle.std.specs.Prelude.{Bool, true, false, ◌==◌, slice_index}
use Rattle.std.specs.List.{range_with_len, sum_by}
use Rattle.std.proofs.lemmas.Bool.{cases_lt, eq-eqb, ne_eqb, lt-ltb, le-ltb}
use Rattle.grid_core.specs.declared.mark.Kind.TheVariants.{Cross, Ring}
use Rattle.grid_core.specs.Diagram.{Diagram, IsGrid, size}
use Rattle.grid_core.specs.Parts.{ends, column_of, is_rightward}
use Rattle.grid_core.proofs.Marks.{column_mark, no_cell_twice}
use Rattle.grid_core.proofs.Ends.{span_low}
use Rattle.colour_rows.specs.Walk.{passed}
use Rattle.colour_laws.proofs.ColouredColumns.{act, columns}
use Rattle.colour_laws.proofs.ColumnLists as lists
use Rattle.colour_laws.proofs.ByIndex.{coloured_at, columns_from, columns_next}
use Rattle.colour_laws.proofs.RowEnds.{AreEnds, are_ends}
use Rattle.colour_laws.proofs.Walks.{HasColours}
use Rattle.cocycle_core.proofs.Mod.{Same}
use Rattle.colour_weights.proofs.RowCounts.{total, total_same, total_plus, same_mod, same_minus, sum_total, equal_below, mod_below}
use Rattle.colour_weights.proofs.Ways.{rightward, rightward_end, rightward_apart}
use Rattle.colour_weights.specs.declared.shadow_walker.ShadowWalker.{ShadowWalker}
use Rattle.cocycle_core.specs.ShadowCocycle.{ShadowCochain, IsShadowCocycle}
use Rattle.colour_weights.specs.ShadowWalkSum.{region_start, shadow_walked, shadow_row_weight, shadow_weight_by_rows}
use Rattle.colour_weights.proofs.ModSums.{turn, by_one, by_two}
use Rattle.colour_weights.proofs.RowSums.{sum_row, right_part, left_part, HaveSameWeight}
use Rattle.colour_weights.proofs.Earned.{earned}
use Rattle.colour_weights.proofs.ByColumns.{step_at, walked_same}

-- a row runs to the right where its O is its left end
pub rightward_low : (d : Diagram) → IsGrid d → (r : ℕ) → r < size d → (slice_index d.o (ends d r).low == r) ≡ is_rightward d r
rightward_low d grid r lt =
    let at_x = column_mark d grid Cross r lt in
    let at_o = column_mark d grid Ring r lt in
    let low = span_low (column_of Cross d r) (column_of Ring d r) in
    elim (cases_lt (column_of Ring d r) (column_of Cross d r)) [
      | inl l ↦
          let is : (ends d r).low ≡ column_of Ring d r = omega (arith, low, l) in
          eq-eqb (slice_index d.o (ends d r).low) r (ap (slice_index d.o) is ∙ at_o.row) ∙ sym (lt-ltb (column_of Ring d r) (column_of Cross d r) l)
      | inr g ↦
          let is : (ends d r).low ≡ column_of Cross d r = omega (arith, low, g) in
          ne_eqb (slice_index d.o (ends d r).low) r
          (λ e. no_cell_twice d grid (column_of Cross d r) at_x.inside (at_x.row ∙ sym (ap (slice_index d.o) (sym is) ∙ e)))
          ∙ sym (le-ltb (column_of Ring d r) (column_of Cross d r) g)
    ]

-- up to the left end
rightward_to_left : (d : Diagram) (f : List ℕ) → length d.o ≡ length d.x → length f ≡ length d.x → (r : ℕ) → AreEnds d r → (k i : ℕ) → i + k ≡ (ends d r).low
    → rightward r (columns_from i d.x d.o f) ≡ (slice_index d.o (ends d r).low == r)
rightward_to_left d f rings long r known zero i e =
    let at : i ≡ (ends d r).low = omega (arith, e) in
    let end : lists.ends r (coloured_at i d.x d.o f) ≡ true = subst (λ (j : ℕ). lists.ends r (coloured_at j d.x d.o f) ≡ true) (sym at) known.left in
    ap (rightward r) (columns_next i d.x d.o f rings long (omega (arith, at, known.ordered, known.within)))
    ∙ (rightward_end r (coloured_at i d.x d.o f) (columns_from (suc i) d.x d.o f) end ∙ ap (λ j. slice_index d.o j == r) at)
rightward_to_left d f rings long r known (suc k) i e =
    let lt : i < length d.x = omega (arith, e, known.ordered, known.within) in
    let apart : lists.ends r (coloured_at i d.x d.o f) ≡ false = known.others i lt (λ h. omega (arith, h, e)) (λ h. omega (arith, h, e, known.ordered)) in
    ap (rightward r) (columns_next i d.x d.o f rings long lt)
    ∙ (rightward_apart r (coloured_at i d.x d.o f) (columns_from (suc i) d.x d.o f) apart
    ∙ rightward_to_left d f rings long r known k (suc i) (omega (arith, e)))

rightward_same : (t : ShadowCochain) (d : Diagram) → IsGrid d → (f : List ℕ) → HasColours t.quandle d f → (r : ℕ) → r < size d
    → rightward r (columns d.x d.o f) ≡ is_rightward d r
rightward_same t d grid f has r lt =
    rightward_to_left d f has.rings has.size r (are_ends d grid r lt) (ends d r).low 0 (omega arith) ∙ rightward_low d grid r lt

-- sums stay below the modulus
sum_below : (t : ShadowCochain) → 0 < t.modulus → (d : Diagram) (f cs : List ℕ) (at : ShadowWalker) → at.sum < t.modulus
    → (fold (step_at t d f) at cs).sum < t.modulus
sum_below t some d f [] at lt = lt
sum_below t some d f (c ∷ cs) at lt = sum_below t some d f cs (step_at t d f at c) (omega (arith, some))

pub walked_below : (t : ShadowCochain) → 0 < t.modulus → (d : Diagram) (f : List ℕ) (u r : ℕ) → (shadow_walked t d f u r).sum < t.modulus
walked_below t some d f u r =
    sum_below t some d f (passed d r) (record { colour = slice_index f (ends d r).low; region = region_start t.quandle d f u r; sum = 0 }) some

-- what a row counts for
row_counts : (t : ShadowCochain) → IsShadowCocycle t → (d : Diagram) → IsGrid d → (f : List ℕ) → HasColours t.quandle d f → (u : ℕ) → u < t.quandle.order
    → (r : ℕ) → r < size d
    → Same t.modulus (shadow_row_weight t d f u r + left_part (act t.quandle) (earned t) u r (columns d.x d.o f))
    (right_part (act t.quandle) (earned t) u r (columns d.x d.o f))
row_counts t cocycle d grid f has u lu r lt =
    let way = rightward_same t d grid f has r lt in
    let sum = walked_same t cocycle d f has r (are_ends d grid r lt) u lu in
    subst (λ (b : Bool). Same t.modulus (shadow_row_weight t d f u r + cond b 0 (sum_row (act t.quandle) (earned t) r r u (columns d.x d.o f)))
    (cond b (sum_row (act t.quandle) (earned t) r r u (columns d.x d.o f)) 0)) (sym way)
    (by_way (is_rightward d r) (shadow_walked t d f u r).sum (sum_row (act t.quandle) (earned t) r r u (columns d.x d.o f))
    (walked_below t (omega (arith, cocycle.least)) d f u r) sum)
  where
    by_way : (b : Bool) (sum row : ℕ) → sum < t.modulus → Same t.modulus sum row
        → Same t.modulus (cond b sum ((t.modulus - sum) % t.modulus) + cond b 0 row) (cond b row 0)
    by_way true sum row below same = by_one same (omega arith)
    by_way false sum row below same =
        by_two (same_minus t.modulus sum (omega (arith, below)) (omega (arith, below))) (turn same) (omega arith)

-- the weight by rows and the rows to the left are the rows to the right
weight_counts : (t : ShadowCochain) → IsShadowCocycle t → (d : Diagram) → IsGrid d → (f : List ℕ) → HasColours t.quandle d f → (u : ℕ) → u < t.quandle.order
    → Same t.modulus (shadow_weight_by_rows t d f u + total (λ r. left_part (act t.quandle) (earned t) u r (columns d.x d.o f)) (size d))
    (total (λ r. right_part (act t.quandle) (earned t) u r (columns d.x d.o f)) (size d))
weight_counts t cocycle d grid f has u lu =
    let rows = total_same t.modulus (λ r. shadow_row_weight t d f u r + left_part (act t.quandle) (earned t) u r (columns d.x d.o f))
    (λ r. right_part (act t.quandle) (earned t) u r (columns d.x d.o f)) (size d)
    (λ r lt. row_counts t cocycle d grid f has u lu r lt) in
    by_two (same_mod t.modulus (sum_by (shadow_row_weight t d f u) (range_with_len 0 (size d))) (omega (arith, cocycle.least))) rows
    (omega (
      arith,
      sum_total (shadow_row_weight t d f u) (size d),
      total_plus (λ r. shadow_row_weight t d f u r) (λ r. left_part (act t.quandle) (earned t) u r (columns d.x d.o f)) (size d),
    ))

-- columns of the same weight give equal weights
pub equal_weights : (t : ShadowCochain) → IsShadowCocycle t → (d e : Diagram) → IsGrid d → IsGrid e → (f g : List ℕ) → HasColours t.quandle d f
    → HasColours t.quandle e g → (u : ℕ) → u < t.quandle.order
    → HaveSameWeight t.modulus (act t.quandle) (earned t) u (size d) (columns d.x d.o f) (size e) (columns e.x e.o g)
    → shadow_weight_by_rows t e g u ≡ shadow_weight_by_rows t d f u
equal_weights t cocycle d e grid grid' f g has has' u lu same =
    let some : 0 < t.modulus = omega (arith, cocycle.least) in
    let old = weight_counts t cocycle d grid f has u lu in
    let new = weight_counts t cocycle e grid' g has' u lu in
    equal_below t.modulus (shadow_weight_by_rows t e g u) (shadow_weight_by_rows t d f u)
    (record { left = new.left + same.right + old.right; right = new.right + same.left + old.left; equal = omega (arith, old.equal, new.equal, same.equal) })
    (mod_below t.modulus (sum_by (shadow_row_weight t e g u) (range_with_len 0 (size e))) some)
    (mod_below t.modulus (sum_by (shadow_row_weight t d f u) (range_with_len 0 (size d))) some)
