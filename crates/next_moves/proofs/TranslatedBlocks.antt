-- A stabilisation, seen on a translate: the block comes to the place of its mark, and the other lines follow round the circle.
use Rattle.std.proofs.Common.{◌≡◌, ◌≢◌, ◌<◌, ◌+◌, ◌-◌, ◌∙◌, ℕ, arith, sym, refl, ap, subst}
use Rattle.grid_core.specs.declared.mark.Kind.{Kind}
use Rattle.grid_core.specs.declared.mark.Kind.TheVariants.{Cross, Ring}
use Rattle.grid_core.specs.declared.mark.Corner.{Corner}
use Rattle.grid_core.specs.Diagram.{Diagram, IsGrid, HasMark, size, row_of, other}
use Rattle.grid_core.specs.Corners.{corner_column, corner_row}
use Rattle.grid_core.proofs.Marks.{no_cell_twice, mark_below}
use Rattle.grid_core.specs.Places.{lifted}
use Rattle.grid_moves.specs.declared.step.Move.TheVariants.{Stabilise, Destabilise}
use Rattle.grid_moves.specs.Renumbered.{Renumbered}
use Rattle.grid_moves.specs.Shift.{shifted}
use Rattle.grid_moves.specs.Stabilisation.{Stabilises}
use Rattle.grid_moves.specs.Step.{Step}
use Rattle.grid_moves.proofs.Shifted.{shifted_below}
use Rattle.grid_moves.proofs.Renumbering.{renumbered_back}
use Rattle.grid_moves.proofs.Undone.{stabilise_back}
use Rattle.grid_keys.specs.Translation.{translate}
use Rattle.grid_keys.proofs.Translated.{origin, origin-shifted, shifted-origin, shifted-permutes, size-translate, translate-renumbered, translate-grid}
use Rattle.next_moves.proofs.Rounds.{brought, brought_by, brought_other, lifted_brought}
use Rattle.grid_moves.proofs.Widened.{right_small, above_small}

-- the marks of a column, and of a row, stand in different cells
other_row : (kind : Kind) (d : Diagram) (c r s : ℕ) → IsGrid d → HasMark d kind c r → HasMark d (other kind) c s → s ≢ r
other_row Cross d c r s grid one two e = no_cell_twice d grid c one.inside (one.row ∙ sym e ∙ sym two.row)
other_row Ring d c r s grid one two e = no_cell_twice d grid c one.inside (two.row ∙ e ∙ sym one.row)

other_column : (kind : Kind) (d : Diagram) (c b r : ℕ) → IsGrid d → HasMark d kind c r → HasMark d (other kind) b r → b ≢ c
other_column kind d c b r grid one two e = other_row kind d c r r grid one (subst (λ (z : ℕ). HasMark d (other kind) z r) e two) refl

-- a mark at its new place
placed : (e : Diagram) (kind : Kind) (x y x' y' : ℕ) → x ≡ x' → y ≡ y' → HasMark e kind x y → HasMark e kind x' y'
placed e kind x y x' y' ex ey mark = subst (λ (z : ℕ). HasMark e kind z y') ex (subst (λ (z : ℕ). HasMark e kind x z) ey mark)

pub stabilises_translated : (c : ℕ) (kind : Kind) (corner : Corner) (r : ℕ) (d e : Diagram) (p u : ℕ) → IsGrid d → IsGrid e → Stabilises c kind corner r d e
    → p < size d → u < size d
    → Stabilises p kind corner u (translate d (shifted (size d) p c) (shifted (size d) u r)) (translate e (shifted (size d + 1) p c) (shifted (size d + 1) u r))
stabilises_translated c kind corner r d e p u grid gride stab hp hu =
    let m : ℕ = size d in
    let hc : c < m = stab.marked.inside in
    let hr : r < m = mark_below d grid kind c r stab.marked in
    let k : ℕ = shifted m p c in
    let l : ℕ = shifted m u r in
    let k' : ℕ = shifted (m + 1) p c in
    let l' : ℕ = shifted (m + 1) u r in
    let hk : k < m = shifted_below m p c hp hc in
    let hl : l < m = shifted_below m u r hu hr in
    let hk' : k' < m + 1 = shifted_below (m + 1) p c (omega (arith, hp)) (omega (arith, hc)) in
    let hl' : l' < m + 1 = shifted_below (m + 1) u r (omega (arith, hu)) (omega (arith, hr)) in
    let long : size (translate d k l) ≡ m = size-translate d k l hk in
    let ek : k' < size e = omega (arith, hk', stab.larger) in
    let el : l' < size e = omega (arith, hl', stab.larger) in
    let translated : Renumbered (shifted m k) (shifted m l) d (translate d k l) = translate-renumbered d k l grid hk in
    let back : Renumbered (origin m k) (origin m l) (translate d k l) d =
    renumbered_back (shifted m k) (shifted m l) (origin m k) (origin m l) d (translate d k l) (shifted-permutes m k hk) grid
    (λ b lt. origin-shifted m k b hk lt) (λ s lt. origin-shifted m l s hl lt) translated in
    let column : shifted m k c ≡ p = brought m p c hp hc in
    let row : shifted m l r ≡ u = brought m u r hu hr in
    let from_column : origin m k p ≡ c = ap (λ (z : ℕ). origin m k z) (sym column) ∙ origin-shifted m k c hk hc in
    let from_row : origin m l u ≡ r = ap (λ (z : ℕ). origin m l z) (sym row) ∙ origin-shifted m l r hl hr in
    let there : (k2 : Kind) (x y x' y' : ℕ) → shifted (m + 1) k' x ≡ x' → shifted (m + 1) l' y ≡ y' → HasMark e k2 x y → HasMark (translate e k' l') k2 x' y' =
    λ k2 x y x' y' ex ey mark.
    placed (translate e k' l') k2 (shifted (size e) k' x) (shifted (size e) l' y) x' y' (ap (λ (z : ℕ). shifted z k' x) stab.larger ∙ ex)
    (ap (λ (z : ℕ). shifted z l' y) stab.larger ∙ ey) ((translate-renumbered e k' l' gride ek).marks k2 x y mark) in
    let right = right_small corner in
    let above = above_small corner in
    let c1 : c + 1 < m + 1 = omega (arith, hc) in
    let r1 : r + 1 < m + 1 = omega (arith, hr) in
    let p1 : p + 1 < m + 1 = omega (arith, hp) in
    let u1 : u + 1 < m + 1 = omega (arith, hu) in
    record {
      marked = placed (translate d k l) kind (shifted m k c) (shifted m l r) p u column row (translated.marks kind c r stab.marked);
      larger = size-translate e k' l' ek ∙ stab.larger ∙ ap (λ (z : ℕ). z + 1) (sym long);
      at_corner =
          there (other kind) (c + corner_column corner) (r + corner_row corner) (p + corner_column corner) (u + corner_row corner)
          (brought_by (m + 1) p c (corner_column corner) right p1 c1) (brought_by (m + 1) u r (corner_row corner) above u1 r1) stab.at_corner;
      in_its_row =
          there kind (c + 1 - corner_column corner) (r + corner_row corner) (p + 1 - corner_column corner) (u + corner_row corner)
          (brought_other (m + 1) p c (corner_column corner) right p1 c1) (brought_by (m + 1) u r (corner_row corner) above u1 r1) stab.in_its_row;
      in_its_column =
          there kind (c + corner_column corner) (r + 1 - corner_row corner) (p + corner_column corner) (u + 1 - corner_row corner)
          (brought_by (m + 1) p c (corner_column corner) right p1 c1) (brought_other (m + 1) u r (corner_row corner) above u1 r1) stab.in_its_column;
      of_column = λ s mark.
          let low : s < m = omega (arith, long, mark_below (translate d k l) (translate-grid d k l grid hk hl) (other kind) p s mark) in
          let old : HasMark d (other kind) c (origin m l s) =
          placed d (other kind) (origin m k p) (origin m l s) c (origin m l s) from_column refl (back.marks (other kind) p s mark) in
          let ne = other_row kind d c r (origin m l s) grid stab.marked old in
          there (other kind) (c + 1 - corner_column corner) (lifted (r + 1) (origin m l s)) (p + 1 - corner_column corner) (lifted (u + 1) s)
          (brought_other (m + 1) p c (corner_column corner) right p1 c1)
          (lifted_brought m u r (origin m l s) hu hr (mark_below d grid (other kind) c (origin m l s) old) ne
          ∙ ap (λ (z : ℕ). lifted (u + 1) z) (shifted-origin m l s hl low))
          (stab.of_column (origin m l s) old);
      of_row = λ b mark.
          let near : b < m = omega (arith, long, mark.inside) in
          let old : HasMark d (other kind) (origin m k b) r =
          placed d (other kind) (origin m k b) (origin m l u) (origin m k b) r refl from_row (back.marks (other kind) b u mark) in
          let ne = other_column kind d c (origin m k b) r grid stab.marked old in
          there (other kind) (lifted (c + 1) (origin m k b)) (r + 1 - corner_row corner) (lifted (p + 1) b) (u + 1 - corner_row corner)
          (lifted_brought m p c (origin m k b) hp hc old.inside ne ∙ ap (λ (z : ℕ). lifted (p + 1) z) (shifted-origin m k b hk near))
          (brought_other (m + 1) u r (corner_row corner) above u1 r1)
          (stab.of_row (origin m k b) old);
      of_others = λ k2 b s nb ns mark.
          let near : b < m = omega (arith, long, mark.inside) in
          let low : s < m = omega (arith, long, mark_below (translate d k l) (translate-grid d k l grid hk hl) k2 b s mark) in
          let old : HasMark d k2 (origin m k b) (origin m l s) = back.marks k2 b s mark in
          let nc : origin m k b ≢ c = λ e. nb (sym (shifted-origin m k b hk near) ∙ ap (λ (z : ℕ). shifted m k z) e ∙ column) in
          let nr : origin m l s ≢ r = λ e. ns (sym (shifted-origin m l s hl low) ∙ ap (λ (z : ℕ). shifted m l z) e ∙ row) in
          there k2 (lifted (c + 1) (origin m k b)) (lifted (r + 1) (origin m l s)) (lifted (p + 1) b) (lifted (u + 1) s)
          (lifted_brought m p c (origin m k b) hp hc old.inside nc ∙ ap (λ (z : ℕ). lifted (p + 1) z) (shifted-origin m k b hk near))
          (lifted_brought m u r (origin m l s) hu hr (mark_below d grid k2 (origin m k b) (origin m l s) old) nr
          ∙ ap (λ (z : ℕ). lifted (u + 1) z) (shifted-origin m l s hl low))
          (stab.of_others k2 (origin m k b) (origin m l s) nc nr old);
    }

-- as steps
pub stabilise_translated : (c : ℕ) (kind : Kind) (corner : Corner) (d e : Diagram) (p u : ℕ) (step : Step d (Stabilise c kind corner) e) → p < size d
    → u < size d
    → Step (translate d (shifted (size d) p c) (shifted (size d) u (row_of kind d c))) (Stabilise p kind corner)
    (translate e (shifted (size d + 1) p c) (shifted (size d + 1) u (row_of kind d c)))
stabilise_translated c kind corner d e p u step hp hu =
    let stab = step.marks.1.1 in
    let hc = stab.marked.inside in
    let here : Stabilises c kind corner (row_of kind d c) d e = subst (λ (z : ℕ). Stabilises c kind corner z d e) (sym stab.marked.row) stab in
    let hr : row_of kind d c < size d = mark_below d step.before kind c (row_of kind d c) here.marked in
    let hk = shifted_below (size d) p c hp hc in
    let hl = shifted_below (size d) u (row_of kind d c) hu hr in
    let hk' = shifted_below (size d + 1) p c (omega (arith, hp)) (omega (arith, hc)) in
    let hl' = shifted_below (size d + 1) u (row_of kind d c) (omega (arith, hu)) (omega (arith, hr)) in
    record {
      before = translate-grid d (shifted (size d) p c) (shifted (size d) u (row_of kind d c)) step.before hk hl;
      after =
          translate-grid e (shifted (size d + 1) p c) (shifted (size d + 1) u (row_of kind d c)) step.after (omega (arith, hk', stab.larger))
          (omega (arith, hl', stab.larger));
      marks = (
        omega (arith, size-translate d (shifted (size d) p c) (shifted (size d) u (row_of kind d c)) hk, step.marks.0),
        (u, stabilises_translated c kind corner (row_of kind d c) d e p u step.before step.after here hp hu),
      );
    }

pub destabilise_translated : (c r : ℕ) (d e : Diagram) (p u : ℕ) → Step d (Destabilise c r) e → p < size e → u < size e
    → Step (translate d (shifted (size d) p c) (shifted (size d) u r)) (Destabilise p u) (translate e (shifted (size e) p c) (shifted (size e) u r))
destabilise_translated c r d e p u step hp hu =
    let kind : Kind = step.marks.kind in
    let corner : Corner = step.marks.corner in
    let stab : Stabilises c kind corner r e d = step.marks.undone in
    let n : size e + 1 ≡ size d = sym stab.larger in
    let hc : c < size e = stab.marked.inside in
    let hr : r < size e = mark_below e step.after kind c r stab.marked in
    let hk = shifted_below (size e) p c hp hc in
    let hl = shifted_below (size e) u r hu hr in
    let hk' : shifted (size d) p c < size d = shifted_below (size d) p c (omega (arith, hp, n)) (omega (arith, hc, n)) in
    let hl' : shifted (size d) u r < size d = shifted_below (size d) u r (omega (arith, hu, n)) (omega (arith, hr, n)) in
    let translated : Stabilises p kind corner u (translate e (shifted (size e) p c) (shifted (size e) u r))
    (translate d (shifted (size d) p c) (shifted (size d) u r)) =
    subst (λ (z : ℕ). Stabilises p kind corner u (translate e (shifted (size e) p c) (shifted (size e) u r)) (translate d (shifted z p c) (shifted z u r))) n
    (stabilises_translated c kind corner r e d p u step.after step.before stab hp hu) in
    subst (λ (z : ℕ). Step (translate d (shifted (size d) p c) (shifted (size d) u r)) (Destabilise p z)
    (translate e (shifted (size e) p c) (shifted (size e) u r))) translated.marked.row
    (stabilise_back p kind corner (translate e (shifted (size e) p c) (shifted (size e) u r)) (translate d (shifted (size d) p c) (shifted (size d) u r))
    (record {
      before = translate-grid e (shifted (size e) p c) (shifted (size e) u r) step.after hk hl;
      after = translate-grid d (shifted (size d) p c) (shifted (size d) u r) step.before hk' hl';
      marks = (omega (arith, size-translate e (shifted (size e) p c) (shifted (size e) u r) hk, n, step.before.most), (u, translated));
    }))
