-- Which columns have a mark in a row: its two ends, and no other.
use Rattle.std.proofs.Common.{◌≡◌, ◌≢◌, ◌∙◌, ◌<◌, ℕ, Bool, true, false, ap, arith, inl, inr, min, max}
use Rattle.std.specs.Prelude.{◌⊎◌, ◌==◌, ◌||◌, slice_index}
use Rattle.std.proofs.lemmas.Bool.{eq-eqb, ne_eqb, or_left, or_right, or_from}
use Rattle.grid_core.specs.declared.mark.Kind.TheVariants.{Cross, Ring}
use Rattle.grid_core.specs.Diagram.{Diagram, IsGrid, size}
use Rattle.grid_core.specs.Parts.{column_of, ends}
use Rattle.grid_core.proofs.Marks.{column_is, column_mark}
use Rattle.grid_core.proofs.Ends.{span_low, span_high, has_ends}

-- whether a mark of column i stands in row r
abbrev pub is_end : Diagram → ℕ → ℕ → Bool
is_end d r i = (slice_index d.x i == r) || (slice_index d.o i == r)

-- what is known of the ends of a row
pub record AreEnds (d : Diagram) (r : ℕ) : Type 0 where
  pub ordered : (ends d r).low < (ends d r).high
  pub within : (ends d r).high < size d
  pub left : is_end d r (ends d r).low ≡ true
  pub right : is_end d r (ends d r).high ≡ true
  pub others : (i : ℕ) → i < size d → i ≢ (ends d r).low → i ≢ (ends d r).high → is_end d r i ≡ false

end_cross : (d : Diagram) → IsGrid d → (r i : ℕ) → r < size d → i ≡ column_of Cross d r → is_end d r i ≡ true
end_cross d grid r i lt e =
    or_left (slice_index d.x i == r) (slice_index d.o i == r) (eq-eqb (slice_index d.x i) r (ap (slice_index d.x) e ∙ (column_mark d grid Cross r lt).row))

end_ring : (d : Diagram) → IsGrid d → (r i : ℕ) → r < size d → i ≡ column_of Ring d r → is_end d r i ≡ true
end_ring d grid r i lt e =
    or_right (slice_index d.x i == r) (slice_index d.o i == r) (eq-eqb (slice_index d.o i) r (ap (slice_index d.o) e ∙ (column_mark d grid Ring r lt).row))

end_either : (d : Diagram) → IsGrid d → (r i : ℕ) → r < size d → (i ≡ column_of Cross d r) ⊎ (i ≡ column_of Ring d r) → is_end d r i ≡ true
end_either d grid r i lt either = elim either [ inl e ↦ end_cross d grid r i lt e | inr e ↦ end_ring d grid r i lt e ]

min_either : (a b c : ℕ) → c ≡ min a b → (c ≡ a) ⊎ (c ≡ b)
min_either a b c e = grind (arith, e)

max_either : (a b c : ℕ) → c ≡ max a b → (c ≡ a) ⊎ (c ≡ b)
max_either a b c e = grind (arith, e)

pub are_ends : (d : Diagram) → IsGrid d → (r : ℕ) → r < size d → AreEnds d r
are_ends d grid r lt =
    let cross = column_of Cross d r in
    let ring = column_of Ring d r in
    let known = has_ends d grid r lt in
    let low = span_low cross ring in
    let high = span_high cross ring in
    record {
      ordered = known.ordered;
      within = known.within;
      left = end_either d grid r (ends d r).low lt (min_either cross ring (ends d r).low low);
      right = end_either d grid r (ends d r).high lt (max_either cross ring (ends d r).high high);
      others = λ i at left right. or_from (slice_index d.x i == r) (slice_index d.o i == r)
          (ne_eqb (slice_index d.x i) r (λ e. let is = column_is d grid Cross i r (record { inside = at; row = e }) in
          absurd (omega (arith, is, low, high, left, right))))
          (ne_eqb (slice_index d.o i) r (λ e. let is = column_is d grid Ring i r (record { inside = at; row = e }) in
          absurd (omega (arith, is, low, high, left, right))));
    }
