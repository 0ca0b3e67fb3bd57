-- A block with three marks has both marks of one of its columns.
use Rattle.std.proofs.Common.{◌≡◌, ◌≢◌, ◌<◌, ◌≤◌, ◌+◌, ◌==◌, ◌&&◌, ◌||◌, ◌⊎◌, ◌∙◌, ℕ, Bool, true, false, cond, nat_le, Option, Some, None, arith, sym, refl, ap}
use Rattle.std.proofs.Common.{inl, inr}
use Rattle.std.specs.Option.{is_none}
use Rattle.std.proofs.lemmas.Bool.{eqb-true, or_cases}
use Rattle.grid_core.specs.declared.mark.Kind.{Kind}
use Rattle.grid_core.specs.declared.mark.Kind.TheVariants.{Cross, Ring}
use Rattle.grid_core.specs.Diagram.{Diagram, IsGrid, size, row_of}
use Rattle.grid_core.proofs.Marks.{row_below, no_cell_twice}
use Rattle.grid_moves.specs.declared.step.Move.TheVariants.{Destabilise}
use Rattle.grid_moves.specs.declared.step.MoveFault.{MoveFault}
use Rattle.grid_moves.specs.MoveFault.{first_move_fault}
use Rattle.grid_moves.specs.Shift.{shifted}
use Rattle.grid_moves.specs.Step.{Step}
use Rattle.grid_moves.proofs.OneResult.{step_exists}
use Rattle.grid_keys.specs.Translation.{translate}
use Rattle.grid_keys.proofs.Translated.{row_of-translate, translate-grid, size-translate}
use Rattle.next_moves.specs.Tries.{shift_before, place_after_shift, try_destabilisation}
use Rattle.grid_moves.specs.SizeAfter.{size_after}
use Rattle.next_moves.specs.Offers.{is_offered}
use Rattle.grid_canon.specs.ShortTrades.{next}
use Rattle.next_moves.specs.Blocks.{row_of_both}
use Rattle.next_moves.proofs.Sides.{shift_before-below, place_after_shift-below, next-below, first_origin, second_origin, from_first, from_second, pair_of_rows}

three_of : (a b c d : Bool) → 0 + cond a 1 0 + cond b 1 0 + cond c 1 0 + cond d 1 0 ≡ 3 → ((a ≡ true) × (b ≡ true)) ⊎ ((c ≡ true) × (d ≡ true))
three_of true true c d e = inl (refl, refl)
three_of a b true true e = inr (refl, refl)
three_of true false true false e = absurd (omega (arith, e))
three_of true false false d e = absurd (by d e)
  where
    by : (d : Bool) → 0 + 1 + 0 + 0 + cond d 1 0 ≡ 3 → ⊥
    by true e = omega (arith, e)
    by false e = omega (arith, e)
three_of false b true false e = absurd (by b e)
  where
    by : (b : Bool) → 0 + 0 + cond b 1 0 + 1 + 0 ≡ 3 → ⊥
    by true e = omega (arith, e)
    by false e = omega (arith, e)
three_of false b false d e = absurd (by b d e)
  where
    by : (b d : Bool) → 0 + 0 + cond b 1 0 + 0 + cond d 1 0 ≡ 3 → ⊥
    by true true e = omega (arith, e)
    by true false e = omega (arith, e)
    by false true e = omega (arith, e)
    by false false e = omega (arith, e)

-- a mark of a translate in the block's rows stood in one of two neighbouring rows
pub from_block : (n r z s : ℕ) → 2 ≤ n → r < n → z < n → s ≡ shifted n (shift_before n r) z
    → ((s == place_after_shift n r) || (s == place_after_shift n r + 1)) ≡ true → (z ≡ r) ⊎ (z ≡ next n r)
from_block n r z s least lt lz is test = elim (or_cases (s == place_after_shift n r) (s == place_after_shift n r + 1) test) [
  | inl e ↦ inl (from_first n r z least lt lz (sym is ∙ eqb-true s (place_after_shift n r) e))
  | inr e ↦ inr (from_second n r z least lt lz (sym is ∙ eqb-true s (place_after_shift n r + 1) e))
]

pub block_has_both : (d : Diagram) (c r : ℕ) (e : Diagram) → IsGrid d → c < size d → r < size d
    → Step (translate d (shift_before (size d) c) (shift_before (size d) r)) (Destabilise (place_after_shift (size d) c) (place_after_shift (size d) r)) e
    → (r ≡ row_of_both d c) ⊎ (r ≡ row_of_both d (next (size d) c))
block_has_both d c r e grid hc hr step =
    let n : ℕ = size d in
    let a = shift_before-below n c grid.least hc in
    let long = size-translate d (shift_before n c) (shift_before n r) a in
    let three : 3 ≤ n = omega (arith, step.marks.undone.larger, step.after.least, long) in
    let first : (kind : Kind) → row_of kind (translate d (shift_before n c) (shift_before n r)) (place_after_shift n c) ≡ shifted n (shift_before n r)
    (row_of kind d c) =
    λ kind. row_of-translate d (shift_before n c) (shift_before n r) grid a kind (place_after_shift n c)
    (omega (arith, place_after_shift-below n c grid.least hc))
    ∙ ap (λ (z : ℕ). shifted n (shift_before n r) (row_of kind d z)) (first_origin n c grid.least hc) in
    let second : (kind : Kind) → row_of kind (translate d (shift_before n c) (shift_before n r)) (place_after_shift n c + 1) ≡ shifted n (shift_before n r)
    (row_of kind d (next n c)) =
    λ kind. row_of-translate d (shift_before n c) (shift_before n r) grid a kind (place_after_shift n c + 1) (place_after_shift-below n c grid.least hc)
    ∙ ap (λ (z : ℕ). shifted n (shift_before n r) (row_of kind d z)) (second_origin n c grid.least hc) in
    let far = next-below n c hc in
    elim (three_of _ _ _ _ step.marks.three) [
      | inl both ↦
          inl (sym (pair_of_rows n r (row_of Cross d c) (row_of Ring d c) three hr
          (from_block n r (row_of Cross d c) _ grid.least hr (row_below d grid Cross c hc) (first Cross) both.0)
          (from_block n r (row_of Ring d c) _ grid.least hr (row_below d grid Ring c hc) (first Ring) both.1) (no_cell_twice d grid c hc)))
      | inr both ↦
          inr (sym (pair_of_rows n r (row_of Cross d (next n c)) (row_of Ring d (next n c)) three hr
          (from_block n r (row_of Cross d (next n c)) _ grid.least hr (row_below d grid Cross (next n c) far) (second Cross) both.0)
          (from_block n r (row_of Ring d (next n c)) _ grid.least hr (row_below d grid Ring (next n c) far) (second Ring) both.1)
          (no_cell_twice d grid (next n c) far)))
    ]

pub not_none : (fault : Option MoveFault) (b : Bool) → (fault ≡ None → ⊥) → (is_none fault && b) ≡ false
not_none None b other = absurd (other refl)
not_none (Some f) b other = refl

-- so no other block is offered
pub no_other_block : (d : Diagram) (cap c r : ℕ) → IsGrid d → c < size d → r < size d → r ≢ row_of_both d c → r ≢ row_of_both d (next (size d) c)
    → is_offered d cap (try_destabilisation (size d) c r) ≡ false
no_other_block d cap c r grid hc hr near far =
    not_none (first_move_fault (translate d (shift_before (size d) c) (shift_before (size d) r))
    (Destabilise (place_after_shift (size d) c) (place_after_shift (size d) r)))
    (nat_le (size_after (Destabilise (place_after_shift (size d) c) (place_after_shift (size d) r)) (size d)) cap) (λ legal.
    let translated =
    translate-grid d (shift_before (size d) c) (shift_before (size d) r) grid (shift_before-below (size d) c grid.least hc)
    (shift_before-below (size d) r grid.least hr) in
    let found =
    step_exists (translate d (shift_before (size d) c) (shift_before (size d) r))
    (Destabilise (place_after_shift (size d) c) (place_after_shift (size d) r)) translated legal in
    elim (block_has_both d c r found.0 grid hc hr found.1) [ inl e ↦ near e | inr e ↦ far e ])
