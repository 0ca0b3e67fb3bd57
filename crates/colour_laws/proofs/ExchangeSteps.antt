-- Exchanges: from the step and the table to the lists of the laws.
use Rattle.std.proofs.Common.{◌≡◌, ◌∙◌, ◌<◌, ◌+◌, ℕ, List, [], ◌∷◌, map, ap, ap₂, refl, subst, arith, inl, inr, cond, add-one}
use Rattle.std.specs.Prelude.{nat_lt, ◌⊎◌, ◌==◌, ◌&&◌}
use Rattle.std.proofs.lemmas.Bool.{cases_lt, ltb-true, and_parts, or_cases}
use Rattle.grid_core.specs.declared.mark.Kind.TheVariants.{Cross, Ring}
use Rattle.grid_core.specs.declared.span.Span.{Span}
use Rattle.grid_core.specs.Diagram.{Diagram}
use Rattle.grid_core.specs.Span.{span, are_disjoint, are_nested}
use Rattle.grid_core.specs.Parts.{column_of}
use Rattle.grid_core.proofs.Ends.{span_low, span_high}
use Rattle.grid_moves.specs.declared.step.Move.TheVariants.{ExchangeRows}
use Rattle.grid_moves.specs.Exchange.{exchanged, MayExchange}
use Rattle.grid_moves.specs.Step.{Step}
use Rattle.grid_moves.proofs.OneResult.{step_moved}
use Rattle.quandle_core.specs.Quandle.{Table, IsQuandle}
use Rattle.colour_rows.specs.Colouring.{IsColouring}
use Rattle.quandle_core.specs.Bijection.{IsBijection}
use Rattle.colour_laws.specs.Carried.{carried}
use Rattle.colour_laws.proofs.ColumnLists.{Column, swapped, IsNested, IsDisjoint}
use Rattle.colour_laws.proofs.ColouredColumns.{AreRowsTradable, across}
use Rattle.colour_laws.proofs.RowExchanges.{rows_traded}
use Rattle.colour_laws.proofs.Bijections.{bijection_from}

-- two intervals of which the marks are known, in any order
abbrev pub AreFree : Column → Column → Type 0
AreFree u v = IsNested u v ⊎ (IsNested v u ⊎ IsDisjoint u v)

nested_spans : (a b c d : ℕ) → (span a b).low < (span c d).low → (span c d).high < (span a b).high
    → ((a < c) × (a < d) × (c < b) × (d < b)) ⊎ ((b < c) × (b < d) × (c < a) × (d < a))
nested_spans a b c d low high =
    let la = span_low a b in
    let ha = span_high a b in
    let lc = span_low c d in
    let hc = span_high c d in
    elim (cases_lt a b) [
      | inl lt ↦ inl (omega arith, omega arith, omega arith, omega arith)
      | inr le ↦ inr (omega arith, omega arith, omega arith, omega arith)
    ]

disjoint_spans : (a b c d : ℕ) → (span a b).high < (span c d).low → (a < c) × (a < d) × (b < c) × (b < d)
disjoint_spans a b c d lt =
    let ha = span_high a b in
    let lc = span_low c d in
    (omega arith, omega arith, omega arith, omega arith)

pub are_free : (a b c d y z : ℕ) → MayExchange (span a b) (span c d) → AreFree (record { x = a; o = b; y = y }) (record { x = c; o = d; y = z })
are_free a b c d y z free =
    let s : Span = span a b in
    let t : Span = span c d in
    elim (or_cases (are_disjoint (span a b) (span c d)) (are_nested (span a b) (span c d)) free.placed) [
      | inl disjoint ↦ elim (or_cases (nat_lt (span a b).high (span c d).low) (nat_lt (span c d).high (span a b).low) disjoint) [
        | inl e ↦ inr (inr (inl (disjoint_spans a b c d (ltb-true (span a b).high (span c d).low e))))
        | inr e ↦
            let h = disjoint_spans c d a b (ltb-true (span c d).high (span a b).low e) in
            inr (inr (inr (h.0, h.1, h.2, h.3)))
      ]
      | inr nested ↦ elim (or_cases (nat_lt (span a b).low (span c d).low && nat_lt (span c d).high (span a b).high)
          (nat_lt (span c d).low (span a b).low && nat_lt (span a b).high (span c d).high) nested) [
            | inl e ↦
                let parts = and_parts (nat_lt (span a b).low (span c d).low) (nat_lt (span c d).high (span a b).high) e in
                inl (nested_spans a b c d (ltb-true (span a b).low (span c d).low parts.0) (ltb-true (span c d).high (span a b).high parts.1))
            | inr e ↦
                let parts = and_parts (nat_lt (span c d).low (span a b).low) (nat_lt (span a b).high (span c d).high) e in
                inr (inl (nested_spans c d a b (ltb-true (span c d).low (span a b).low parts.0) (ltb-true (span a b).high (span c d).high parts.1)))
          ]
    ]

-- exchanges of rows
pub exchanged_swapped : (r s : ℕ) → exchanged r s ≡ swapped r s
exchanged_swapped r s = ap (λ k. cond (s == r) k (cond (s == k) r s)) (add-one r)

pub map_same : (f g : ℕ → ℕ) → ((x : ℕ) → f x ≡ g x) → (xs : List ℕ) → map f xs ≡ map g xs
map_same f g same [] = refl
map_same f g same (x ∷ xs) = ap₂ (λ y ys. y ∷ ys) (same x) (map_same f g same xs)

pub exchange_of_rows : (t : Table) → IsQuandle t → (d e : Diagram) (r : ℕ) → Step d (ExchangeRows r) e
    → IsBijection (IsColouring t d) (IsColouring t e) (carried t d (ExchangeRows r))
exchange_of_rows t q d e r step =
    let is = step_moved d (ExchangeRows r) e step in
    let tradable : AreRowsTradable r d = (
      omega (arith, step.marks.inside),
      subst (λ (k : ℕ). AreFree (across r d) (across k d)) (add-one r) (are_free (column_of Cross d r) (column_of Ring d r) (column_of Cross d (r + 1))
          (column_of Ring d (r + 1)) 0 0 step.marks.may_exchange),
    ) in
    bijection_from t q d e step.before step.after (λ c. c) (λ c. c) (carried t d (ExchangeRows r))
    (rows_traded t q d e step.before step.after r tradable
    (ap (λ (f : Diagram). f.x) is ∙ map_same (exchanged r) (swapped r) (exchanged_swapped r) d.x)
    (ap (λ (f : Diagram). f.o) is ∙ map_same (exchanged r) (swapped r) (exchanged_swapped r) d.o))
    (λ c colouring. refl)
