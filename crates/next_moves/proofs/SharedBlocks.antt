-- The two columns of a block with three marks have exactly one end in common.
use Rattle.std.proofs.Common.{◌≡◌, ◌≢◌, ◌<◌, ◌+◌, ◌==◌, ◌||◌, ◌⊎◌, ◌∙◌, ℕ, List, Bool, true, false, cond, nat_le, arith, refl, sym, ap, ap₂, inl, inr}
use Rattle.std.proofs.lemmas.Bool.Decides.{nat_tests}
use Rattle.grid_core.specs.declared.mark.Kind.{Kind}
use Rattle.grid_core.specs.declared.mark.Kind.TheVariants.{Cross, Ring}
use Rattle.grid_core.specs.Diagram.{Diagram, IsGrid, size, row_of}
use Rattle.grid_core.specs.Span.{span, share_one_end}
use Rattle.grid_core.specs.Parts.{column_span}
use Rattle.grid_core.proofs.Marks.{row_below, no_cell_twice}
use Rattle.grid_moves.specs.declared.step.Move.TheVariants.{Destabilise}
use Rattle.grid_moves.specs.MoveFault.{first_move_fault}
use Rattle.grid_moves.specs.Shift.{shifted}
use Rattle.grid_moves.specs.SizeAfter.{size_after}
use Rattle.grid_moves.specs.Step.{Step}
use Rattle.grid_moves.proofs.OneResult.{step_exists}
use Rattle.grid_keys.specs.Translation.{translate}
use Rattle.grid_keys.proofs.Translated.{origin, row_of-translate, translate-grid}
use Rattle.next_moves.specs.declared.links.Offer.{Offer}
use Rattle.next_moves.specs.Tries.{shift_before, place_after_shift, try_destabilisation, block_tries}
use Rattle.next_moves.specs.Offers.{is_offered}
use Rattle.grid_canon.specs.ShortTrades.{next}
use Rattle.next_moves.specs.Extends.{Extends}
use Rattle.next_moves.proofs.Sides.{shift_before-below, place_after_shift-below, next-below, first_origin, second_origin}
use Rattle.next_moves.proofs.BlockRows.{from_block, not_none}
use Rattle.next_moves.proofs.FewRows.{no_rows}

-- which of four is left out
data OneOut : Bool → Bool → Bool → Bool → Type 0 where
  first : OneOut false true true true
  second : OneOut true false true true
  third : OneOut true true false true
  fourth : OneOut true true true false

one_out : (a b c d : Bool) → 0 + cond a 1 0 + cond b 1 0 + cond c 1 0 + cond d 1 0 ≡ 3 → OneOut a b c d
one_out false true true true e = first
one_out true false true true e = second
one_out true true false true e = third
one_out true true true false e = fourth
one_out true true true true e = absurd (omega (arith, e))
one_out true true false false e = absurd (omega (arith, e))
one_out true false true false e = absurd (omega (arith, e))
one_out true false false true e = absurd (omega (arith, e))
one_out true false false false e = absurd (omega (arith, e))
one_out false true true false e = absurd (omega (arith, e))
one_out false true false true e = absurd (omega (arith, e))
one_out false true false false e = absurd (omega (arith, e))
one_out false false true true e = absurd (omega (arith, e))
one_out false false true false e = absurd (omega (arith, e))
one_out false false false true e = absurd (omega (arith, e))
one_out false false false false e = absurd (omega (arith, e))

-- a span and one end of another
abbrev IsEnd : ℕ → ℕ → ℕ → Type 0
IsEnd x o a = (a ≡ x) ⊎ (a ≡ o)

shared_first : (x o a b : ℕ) → x ≢ o → a ≢ b → IsEnd x o a → b ≢ x → b ≢ o → share_one_end (span x o) (span a b) ≡ true
shared_first x o a b xo ab at bx bo = elim at [ inl e ↦ grind (arith, nat_tests) | inr e ↦ grind (arith, nat_tests) ]

shared_second : (x o a b : ℕ) → x ≢ o → a ≢ b → IsEnd x o b → a ≢ x → a ≢ o → share_one_end (span x o) (span a b) ≡ true
shared_second x o a b xo ab at ax ao = elim at [ inl e ↦ grind (arith, nat_tests) | inr e ↦ grind (arith, nat_tests) ]

shared_third : (x o a b : ℕ) → x ≢ o → a ≢ b → IsEnd a b x → o ≢ a → o ≢ b → share_one_end (span x o) (span a b) ≡ true
shared_third x o a b xo ab at oa ob = elim at [ inl e ↦ grind (arith, nat_tests) | inr e ↦ grind (arith, nat_tests) ]

shared_fourth : (x o a b : ℕ) → x ≢ o → a ≢ b → IsEnd a b o → x ≢ a → x ≢ b → share_one_end (span x o) (span a b) ≡ true
shared_fourth x o a b xo ab at xa xb = elim at [ inl e ↦ grind (arith, nat_tests) | inr e ↦ grind (arith, nat_tests) ]

-- of three that are each one of two, two are equal
one_of_two : (p q x o a : ℕ) → x ≢ o → IsEnd p q x → IsEnd p q o → IsEnd p q a → IsEnd x o a
one_of_two p q x o a xo hx ho ha = elim hx [
  | inl xp ↦ elim ho [
    | inl op ↦ absurd (xo (xp ∙ sym op))
    | inr oq ↦ elim ha [ inl at ↦ inl (at ∙ sym xp) | inr at ↦ inr (at ∙ sym oq) ]
  ]
  | inr xq ↦ elim ho [
    | inl op ↦ elim ha [ inl at ↦ inr (at ∙ sym op) | inr at ↦ inl (at ∙ sym xq) ]
    | inr oq ↦ absurd (xo (xq ∙ sym oq))
  ]
]

module _ (t : ℕ → Bool) (p q : ℕ) where
  told_apart : (z w : ℕ) → t z ≡ false → t w ≡ true → z ≢ w
  told_apart z w out within e = absurd (let no : false ≡ true = sym out ∙ ap t e ∙ within in cc)

  three_shared : (x o a b : ℕ) → ((z : ℕ) → (z ≡ x) ⊎ ((z ≡ o) ⊎ ((z ≡ a) ⊎ (z ≡ b))) → t z ≡ true → IsEnd p q z) → x ≢ o → a ≢ b
      → 0 + cond (t x) 1 0 + cond (t o) 1 0 + cond (t a) 1 0 + cond (t b) 1 0 ≡ 3 → share_one_end (span x o) (span a b) ≡ true
  three_shared x o a b known xo ab three = by (t x) (t o) (t a) (t b) refl refl refl refl (one_out (t x) (t o) (t a) (t b) three)
    where
      at_x : t x ≡ true → IsEnd p q x
      at_x = known x (inl refl)

      at_o : t o ≡ true → IsEnd p q o
      at_o = known o (inr (inl refl))

      at_a : t a ≡ true → IsEnd p q a
      at_a = known a (inr (inr (inl refl)))

      at_b : t b ≡ true → IsEnd p q b
      at_b = known b (inr (inr (inr refl)))

      by : (i j k l : Bool) → t x ≡ i → t o ≡ j → t a ≡ k → t b ≡ l → OneOut i j k l → share_one_end (span x o) (span a b) ≡ true
      by _ _ _ _ ex eo ea eb first =
          shared_fourth x o a b xo ab (one_of_two p q a b o ab (at_a ea) (at_b eb) (at_o eo)) (told_apart x a ex ea) (told_apart x b ex eb)
      by _ _ _ _ ex eo ea eb second =
          shared_third x o a b xo ab (one_of_two p q a b x ab (at_a ea) (at_b eb) (at_x ex)) (told_apart o a eo ea) (told_apart o b eo eb)
      by _ _ _ _ ex eo ea eb third =
          shared_second x o a b xo ab (one_of_two p q x o b xo (at_x ex) (at_o eo) (at_b eb)) (told_apart a x ea ex) (told_apart a o ea eo)
      by _ _ _ _ ex eo ea eb fourth =
          shared_first x o a b xo ab (one_of_two p q x o a xo (at_x ex) (at_o eo) (at_a ea)) (told_apart b x eb ex) (told_apart b o eb eo)

module _ (d : Diagram) (c r : ℕ) (grid : IsGrid d) (hc : c < size d) (hr : r < size d) where
  abbrev columns : ℕ
  columns = shift_before (size d) c

  abbrev rows : ℕ
  rows = shift_before (size d) r

  abbrev moved : Diagram
  moved = translate d columns rows

  abbrev left : ℕ
  left = place_after_shift (size d) c

  abbrev low : ℕ
  low = place_after_shift (size d) r

  -- a row is one of the block's
  abbrev in_block : ℕ → Bool
  in_block z = (shifted (size d) rows z == low) || (shifted (size d) rows z == low + 1)

  abbrev far : ℕ
  far = next (size d) c

  far_inside : far < size d
  far_inside = next-below (size d) c hc

  columns_inside : columns < size d
  columns_inside = shift_before-below (size d) c grid.least hc

  in_rows : (z : ℕ) → z < size d → in_block z ≡ true → IsEnd r (next (size d) r) z
  in_rows z hz = from_block (size d) r z (shifted (size d) rows z) grid.least hr hz refl

  tested : (k q : ℕ) (kind : Kind) → k < size d → origin (size d) columns k ≡ q
      → in_block (row_of kind d q) ≡ ((row_of kind moved k == low) || (row_of kind moved k == low + 1))
  tested k q kind hk e =
      ap (λ (z : ℕ). (z == low) || (z == low + 1))
      (sym (row_of-translate d columns rows grid columns_inside kind k hk ∙ ap (λ (z : ℕ). shifted (size d) rows (row_of kind d z)) e))

  left_inside : left + 1 < size d
  left_inside = place_after_shift-below (size d) c grid.least hc

  at_left : (kind : Kind) → in_block (row_of kind d c) ≡ ((row_of kind moved left == low) || (row_of kind moved left == low + 1))
  at_left kind = tested left c kind (omega (arith, left_inside)) (first_origin (size d) c grid.least hc)

  at_right : (kind : Kind) → in_block (row_of kind d far) ≡ ((row_of kind moved (left + 1) == low) || (row_of kind moved (left + 1) == low + 1))
  at_right kind = tested (left + 1) far kind left_inside (second_origin (size d) c grid.least hc)

  pub block_shares : (e : Diagram) → Step moved (Destabilise left low) e → share_one_end (column_span d c) (column_span d far) ≡ true
  block_shares e step =
      three_shared in_block r (next (size d) r) (row_of Cross d c) (row_of Ring d c) (row_of Cross d far) (row_of Ring d far)
      (λ z at. in_rows z (inside z at)) (no_cell_twice d grid c hc) (no_cell_twice d grid far far_inside)
      (ap₂ (λ a b. 0 + cond a 1 0 + cond b 1 0 + cond (in_block (row_of Cross d far)) 1 0 + cond (in_block (row_of Ring d far)) 1 0) (at_left Cross)
      (at_left Ring)
      ∙ ap₂ (λ a b. 0 + cond ((row_of Cross moved left == low) || (row_of Cross moved left == low + 1)) 1 0
      + cond ((row_of Ring moved left == low) || (row_of Ring moved left == low + 1)) 1 0 + cond a 1 0 + cond b 1 0) (at_right Cross) (at_right Ring)
      ∙ step.marks.three)
    where
      inside : (z : ℕ) → (z ≡ row_of Cross d c) ⊎ ((z ≡ row_of Ring d c) ⊎ ((z ≡ row_of Cross d far) ⊎ (z ≡ row_of Ring d far))) → z < size d
      inside z (inl e) = omega (arith, e, row_below d grid Cross c hc)
      inside z (inr (inl e)) = omega (arith, e, row_below d grid Ring c hc)
      inside z (inr (inr (inl e))) = omega (arith, e, row_below d grid Cross far far_inside)
      inside z (inr (inr (inr e))) = omega (arith, e, row_below d grid Ring far far_inside)

  pub not_shared : (cap : ℕ) → share_one_end (column_span d c) (column_span d far) ≡ false → is_offered d cap (try_destabilisation (size d) c r) ≡ false
  not_shared cap none =
      not_none (first_move_fault moved (Destabilise left low)) (nat_le (size_after (Destabilise left low) (size d)) cap) (λ legal.
      let translated = translate-grid d columns rows grid columns_inside (shift_before-below (size d) r grid.least hr) in
      let found = step_exists moved (Destabilise left low) translated legal in
      absurd (let no : false ≡ true = sym none ∙ block_shares found.0 found.1 in cc))

-- so where they have not, no block of the two columns is offered
pub no_blocks : (d : Diagram) (cap c : ℕ) (old : List Offer) → IsGrid d → c < size d → share_one_end (column_span d c) (column_span d (next (size d) c)) ≡ false
    → Extends d cap (block_tries (size d) c) old old
no_blocks d cap c old grid lt none = no_rows d cap c grid lt old (λ r hr. not_shared d c r grid lt hr cap none)
