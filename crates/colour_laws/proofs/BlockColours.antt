-- The colours that stabilisation and destabilisation carry.
use Rattle.std.proofs.Common.{◌≡◌, ◌∙◌, ◌≤◌, ◌+◌, ◌-◌, ℕ, zero, suc, List, [], ◌∷◌, length, ap, sym, refl, arith, inl, inr, cond, add-one}
use Rattle.std.specs.Prelude.{slice_index, nat_lt}
use Rattle.std.proofs.lemmas.Bool.{cases_lt, lt-ltb, le-ltb, cond-true, cond-false}
use Rattle.grid_core.specs.declared.mark.Kind.{Kind}
use Rattle.grid_core.specs.declared.mark.Corner.{Corner}
use Rattle.grid_core.specs.Diagram.{Diagram, size}
use Rattle.grid_moves.specs.declared.step.Move.TheVariants.{Stabilise, Destabilise}
use Rattle.grid_moves.specs.Step.{Step}
use Rattle.quandle_core.specs.Quandle.{Table, IsQuandle}
use Rattle.colour_rows.specs.Colouring.{IsColouring}
use Rattle.quandle_core.specs.Bijection.{IsBijection}
use Rattle.colour_laws.specs.Carried.{carried}
use Rattle.colour_laws.specs.Carried as table
use Rattle.colour_laws.proofs.ColouredColumns.{doubled, without}
use Rattle.colour_laws.proofs.Stabilisations.{stabilised, destabilised}
use Rattle.colour_laws.proofs.StabilisationSteps.{is_cross, is_right, is_high, is_stabilised}
use Rattle.colour_laws.proofs.ByIndex.{is_by_column}
use Rattle.colour_laws.proofs.Walks.{by_columns}
use Rattle.colour_laws.proofs.Bijections.{bijection_from}

-- the doubled list, place by place
doubled_low : (k : ℕ) (ys : List ℕ) (i : ℕ) → i ≤ k → slice_index (doubled k ys) i ≡ slice_index ys i
doubled_low k [] i le = refl
doubled_low zero (y ∷ ys) zero le = refl
doubled_low zero (y ∷ ys) (suc i) le = absurd (omega arith)
doubled_low (suc k) (y ∷ ys) zero le = refl
doubled_low (suc k) (y ∷ ys) (suc i) le = doubled_low k ys i (omega arith)

doubled_high : (k : ℕ) (ys : List ℕ) (i : ℕ) → k ≤ i → slice_index (doubled k ys) (suc i) ≡ slice_index ys i
doubled_high k [] i le = refl
doubled_high zero (y ∷ ys) i le = refl
doubled_high (suc k) (y ∷ ys) zero le = absurd (omega arith)
doubled_high (suc k) (y ∷ ys) (suc i) le = doubled_high k ys i (omega arith)

pub doubled_is : (c : ℕ) (d : Diagram) (ys : List ℕ) → length (doubled c ys) ≡ size d + 1 → doubled c ys ≡ table.stabilised c d ys
doubled_is c d ys long =
    is_by_column (size d + 1) (λ i. slice_index ys (cond (nat_lt c i) (i - 1) i)) (doubled c ys) long
    (λ i lt. elim (cases_lt c i) [
      | inl l ↦
          ap (slice_index (doubled c ys)) (let e : i ≡ suc (i - 1) = omega arith in e) ∙ doubled_high c ys (i - 1) (omega arith)
          ∙ ap (slice_index ys) (sym (cond-true (nat_lt c i) (i - 1) i (lt-ltb c i l)))
      | inr g ↦ doubled_low c ys i g ∙ ap (slice_index ys) (sym (cond-false (nat_lt c i) (i - 1) i (le-ltb c i g)))
    ])

pub merged_is : (c : ℕ) (d : Diagram) (ys : List ℕ) → doubled c (without c ys) ≡ ys → length (without c ys) ≡ size d - 1
    → without c ys ≡ table.destabilised c d ys
merged_is c d ys same long =
    is_by_column (size d - 1) (λ i. slice_index ys (cond (nat_lt c i) (i + 1) i)) (without c ys) long
    (λ i lt. elim (cases_lt c i) [
      | inl l ↦
          sym (doubled_high c (without c ys) i (omega arith)) ∙ ap (λ zs. slice_index zs (suc i)) same
          ∙ ap (slice_index ys) (let e : suc i ≡ i + 1 = omega arith in e ∙ sym (cond-true (nat_lt c i) (i + 1) i (lt-ltb c i l)))
      | inr g ↦ sym (doubled_low c (without c ys) i g) ∙ ap (λ zs. slice_index zs i) same
          ∙ ap (slice_index ys) (sym (cond-false (nat_lt c i) (i + 1) i (le-ltb c i g)))
    ])

pub stabilisation : (t : Table) → IsQuandle t → (d e : Diagram) (c : ℕ) (kind : Kind) (corner : Corner) → Step d (Stabilise c kind corner) e
    → IsBijection (IsColouring t d) (IsColouring t e) (carried t d (Stabilise c kind corner))
stabilisation t q d e c kind corner step =
    let r : ℕ = step.marks.1.0 in
    let stab = step.marks.1.1 in
    let inverse = stabilised t q d e step.before step.after (is_cross kind) (is_right corner) (is_high corner) step.marks.1.0 c
    (is_stabilised c kind corner step.marks.1.0 d e step.before step.after step.marks.1.1) in
    bijection_from t q d e step.before step.after (doubled c) (without c) (carried t d (Stabilise c kind corner)) inverse
    (λ f colouring. doubled_is c d f ((inverse.goes f colouring).size ∙ stab.larger))

pub destabilisation : (t : Table) → IsQuandle t → (d e : Diagram) (c r : ℕ) → Step d (Destabilise c r) e
    → IsBijection (IsColouring t d) (IsColouring t e) (carried t d (Destabilise c r))
destabilisation t q d e c r step =
    let undone = step.marks.undone in
    let inverse = destabilised t q d e step.before step.after (is_cross step.marks.kind) (is_right step.marks.corner) (is_high step.marks.corner) r c
    (is_stabilised c step.marks.kind step.marks.corner r e d step.after step.before step.marks.undone) in
    bijection_from t q d e step.before step.after (without c) (doubled c) (carried t d (Destabilise c r)) inverse
    (λ f colouring. merged_is c d f (inverse.there f colouring) ((inverse.goes f colouring).size ∙ omega (arith, undone.larger)))

-- before a destabilisation the two columns of the block have one colour
pub merged_colours : (t : Table) → IsQuandle t → (d e : Diagram) (c r : ℕ) → Step d (Destabilise c r) e → (f : List ℕ) → IsColouring t d f
    → slice_index f c ≡ slice_index f (c + 1)
merged_colours t q d e c r step f colouring =
    let m = step.marks in
    let inverse = destabilised t q d e step.before step.after (is_cross m.kind) (is_right m.corner) (is_high m.corner) r c
    (is_stabilised c m.kind m.corner r e d step.after step.before m.undone) in
    let same : doubled c (without c f) ≡ f = inverse.there f (by_columns t q d step.before f colouring) in
    ap (λ zs. slice_index zs c) (sym same)
    ∙ (doubled_low c (without c f) c (omega arith)
    ∙ (sym (doubled_high c (without c f) c (omega arith))
    ∙ (ap (λ zs. slice_index zs (suc c)) same
    ∙ ap (slice_index f) (sym (add-one c)))))
