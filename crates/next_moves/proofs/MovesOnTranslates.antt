-- Each kind of move, seen on any translate at the place to which its columns and rows have come.
use Rattle.std.proofs.Common.{◌≡◌, ◌<◌, ◌+◌, ◌∙◌, ℕ, arith, sym, ap, ap₂, refl, subst}
use Rattle.std.specs.List.{Contains}
use Rattle.grid_core.specs.declared.mark.Kind.{Kind}
use Rattle.grid_core.specs.declared.mark.Corner.{Corner}
use Rattle.grid_core.specs.Diagram.{Diagram, size, row_of}
use Rattle.grid_core.proofs.Marks.{mark_below}
use Rattle.grid_moves.specs.declared.step.Move.TheVariants.{ExchangeColumns, ExchangeRows, SlideColumns, SlideRows, Stabilise, Destabilise}
use Rattle.grid_moves.specs.Shift.{shifted}
use Rattle.grid_moves.specs.Step.{Step}
use Rattle.grid_moves.proofs.Shifted.{shifted_below}
use Rattle.grid_keys.specs.Translation.{translate, translates}
use Rattle.grid_keys.proofs.Translated.{origin, origin-shifted}
use Rattle.grid_keys.proofs.LeastTranslates.{translates_contains}
use Rattle.next_moves.proofs.Rounds.{brought}
use Rattle.next_moves.proofs.TranslatedMoves.{exchange_columns_translated, exchange_rows_translated, slide_columns_translated, slide_rows_translated}
use Rattle.next_moves.proofs.TranslatedBlocks.{stabilise_translated, destabilise_translated}

-- the place c of a circle of n and the next one, where both are still neighbours after the shift by a
record StillSideBySide (n a c : ℕ) : Type 0 where
  inside : shifted n a c + 1 < n
  first : origin n a (shifted n a c) ≡ c
  second : origin n a (shifted n a c + 1) ≡ c + 1

side_by_side : (n a c : ℕ) → a < n → c + 1 < n → shifted n a (c + 1) ≡ shifted n a c + 1 → StillSideBySide n a c
side_by_side n a c ha inside same = record {
  inside = omega (arith, same, shifted_below n a (c + 1) ha inside);
  first = origin-shifted n a c ha (omega (arith, inside));
  second = ap (λ (z : ℕ). origin n a z) (sym same) ∙ origin-shifted n a (c + 1) ha inside;
}

pub exchange_of_columns_seen : (d e : Diagram) (c a b : ℕ) → Step d (ExchangeColumns c) e → a < size d → b < size d
    → shifted (size d) a (c + 1) ≡ shifted (size d) a c + 1
    → Step (translate d a b) (ExchangeColumns (shifted (size d) a c)) (translate e a b)
exchange_of_columns_seen d e c a b step ha hb same =
    let place = side_by_side (size d) a c ha step.marks.inside same in
    exchange_columns_translated d e c (shifted (size d) a c) a b step ha hb place.inside place.first place.second

pub slide_of_columns_seen : (d e : Diagram) (c a b : ℕ) → Step d (SlideColumns c) e → a < size d → b < size d
    → shifted (size d) a (c + 1) ≡ shifted (size d) a c + 1
    → Step (translate d a b) (SlideColumns (shifted (size d) a c)) (translate e a b)
slide_of_columns_seen d e c a b step ha hb same =
    let place = side_by_side (size d) a c ha step.marks.inside same in
    slide_columns_translated d e c (shifted (size d) a c) a b step ha hb place.inside place.first place.second

pub exchange_of_rows_seen : (d e : Diagram) (r a b : ℕ) → Step d (ExchangeRows r) e → a < size d → b < size d
    → shifted (size d) b (r + 1) ≡ shifted (size d) b r + 1
    → Step (translate d a b) (ExchangeRows (shifted (size d) b r)) (translate e a b)
exchange_of_rows_seen d e r a b step ha hb same =
    let inside = (side_by_side (size d) b r hb step.marks.inside same).inside in
    exchange_rows_translated d e r (shifted (size d) b r) a b step ha hb inside refl same

pub slide_of_rows_seen : (d e : Diagram) (r a b : ℕ) → Step d (SlideRows r) e → a < size d → b < size d
    → shifted (size d) b (r + 1) ≡ shifted (size d) b r + 1
    → Step (translate d a b) (SlideRows (shifted (size d) b r)) (translate e a b)
slide_of_rows_seen d e r a b step ha hb same =
    let inside = (side_by_side (size d) b r hb step.marks.inside same).inside in
    slide_rows_translated d e r (shifted (size d) b r) a b step ha hb inside refl same

pub stabilisation_seen : (d e : Diagram) (c : ℕ) (kind : Kind) (corner : Corner) (a b : ℕ) → Step d (Stabilise c kind corner) e → a < size d → b < size d
    → (f : Diagram) × (Contains (translates e) f × Step (translate d a b) (Stabilise (shifted (size d) a c) kind corner) f)
stabilisation_seen d e c kind corner a b step ha hb =
    let n : ℕ = size d in
    let stab = step.marks.1.1 in
    let r : ℕ = row_of kind d c in
    let hc : c < n = stab.marked.inside in
    let hr : r < n = omega (arith, stab.marked.row, mark_below d step.before kind c _ stab.marked) in
    let p : ℕ = shifted n a c in
    let u : ℕ = shifted n b r in
    let hp : p < n = shifted_below n a c ha hc in
    let hu : u < n = shifted_below n b r hb hr in
    let k : ℕ = shifted (n + 1) p c in
    let l : ℕ = shifted (n + 1) u r in
    let there = ap₂ (λ (y z : ℕ). translate d y z) (brought n a c ha hc) (brought n b r hb hr) in
    let hk = shifted_below (n + 1) p c (omega (arith, hp)) (omega (arith, hc)) in
    let hl = shifted_below (n + 1) u r (omega (arith, hu)) (omega (arith, hr)) in (
      translate e k l,
      (
        translates_contains e k l (omega (arith, hk, stab.larger)) (omega (arith, hl, stab.larger)),
        subst (λ t. Step t (Stabilise p kind corner) (translate e k l)) there (stabilise_translated c kind corner d e p u step hp hu),
      ),
    )

pub destabilisation_seen : (d e : Diagram) (c r a b : ℕ) → Step d (Destabilise c r) e → a < size d → b < size d
    → shifted (size d) a (c + 1) ≡ shifted (size d) a c + 1 → shifted (size d) b (r + 1) ≡ shifted (size d) b r + 1
    → (f : Diagram) × (Contains (translates e) f × Step (translate d a b) (Destabilise (shifted (size d) a c) (shifted (size d) b r)) f)
destabilisation_seen d e c r a b step ha hb columns rows =
    let n : ℕ = size d in
    let smaller : size e + 1 ≡ n = sym step.marks.undone.larger in
    let hc : c < size e = step.marks.undone.marked.inside in
    let hr : r < size e = mark_below e step.after step.marks.kind c r step.marks.undone.marked in
    let hc' : c < n = omega (arith, hc, smaller) in
    let hr' : r < n = omega (arith, hr, smaller) in
    let p : ℕ = shifted n a c in
    let u : ℕ = shifted n b r in
    let p1 = (side_by_side n a c ha (omega (arith, hc, smaller)) columns).inside in
    let u1 = (side_by_side n b r hb (omega (arith, hr, smaller)) rows).inside in
    let hp : p < size e = omega (arith, p1, smaller) in
    let hu : u < size e = omega (arith, u1, smaller) in
    let k : ℕ = shifted (size e) p c in
    let l : ℕ = shifted (size e) u r in
    let there = ap₂ (λ (y z : ℕ). translate d y z) (brought n a c ha hc') (brought n b r hb hr') in (
      translate e k l,
      (
        translates_contains e k l (shifted_below (size e) p c hp hc) (shifted_below (size e) u r hu hr),
        subst (λ t. Step t (Destabilise p u) (translate e k l)) there (destabilise_translated c r d e p u step hp hu),
      ),
    )
