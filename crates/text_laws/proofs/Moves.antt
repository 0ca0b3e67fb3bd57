-- The first fault of a move.
use Rattle.std.proofs.Common.{◌≡◌, ◌<◌, ◌≤◌, ◌+◌, ◌∙◌, ◌==◌, ◌&&◌, ◌||◌, ◌⊎◌, inl, inr, ℕ, zero, suc, true, false, not, nat_lt, Option, Some, None, arith, ap}
use Rattle.std.proofs.Common.{ap₂, sym, subst, refl}
use Rattle.std.proofs.lemmas.Bool.{and_cases, and_parts, and_from, not_from_false, not-true, ltb-true, ltb-false, eqb-true, eqb-false, both_ways}
use Rattle.std.proofs.lemmas.Bool.Decides.{not_from_Decides}
use Rattle.grid_core.specs.declared.grid.TheConstants.{MAX_SIZE}
use Rattle.grid_core.specs.declared.mark.Kind.{Kind}
use Rattle.grid_core.specs.declared.mark.Kind.TheVariants.{Cross, Ring}
use Rattle.grid_core.specs.declared.mark.Corner.{Corner}
use Rattle.grid_core.specs.Diagram.{Diagram, size, row_of}
use Rattle.grid_core.specs.Span.{span, share_an_end, share_both_ends, are_disjoint, are_nested}
use Rattle.grid_core.specs.Parts.{column_of}
use Rattle.grid_moves.specs.declared.step.Move.{Move}
use Rattle.grid_moves.specs.declared.step.Move.TheVariants.{ShiftColumns, ShiftRows, ExchangeColumns, ExchangeRows, SlideColumns, SlideRows, Stabilise}
use Rattle.grid_moves.specs.declared.step.Move.TheVariants.{Destabilise}
use Rattle.grid_moves.specs.declared.step.MoveFault.{MoveFault}
use Rattle.grid_moves.specs.declared.step.MoveFault.TheVariants.{Range, Touching, Interleaved, Block, Full, Apart}
use Rattle.grid_moves.specs.Destabilisation.{marks_in_block}
use Rattle.grid_moves.specs.MoveFault.{shift_fault, exchange_fault, slide_fault, first_move_fault}
use Rattle.text_laws.specs.First.{IsFirst}
use Rattle.text_laws.specs.MoveFaults.{IsOutOfRange, HaveOneEnd, HaveBothEnds, Interleave, IsMoveFault, move_rank, move_number}
use Rattle.grid_core.proofs.Accepted.{cond_passed}
use Rattle.text_laws.proofs.Firsts.{lowest_comes_first, one_comes_first}
use Rattle.text_laws.proofs.Chains.{tested, refused, passed}
use Rattle.text_laws.proofs.Neighbours.{shares_one, shares_both, interleaves_tells}

-- rank and number tell a fault
abbrev fault_at : ℕ → ℕ → MoveFault
fault_at zero number = Range
fault_at (suc zero) number = Touching
fault_at (suc (suc zero)) number = Interleaved
fault_at (suc (suc (suc zero))) number = Block number
fault_at (suc (suc (suc (suc zero)))) number = Full
fault_at (suc (suc (suc (suc (suc rank))))) number = Apart

told : (f : MoveFault) → fault_at (move_rank f) (move_number f) ≡ f
told Range = refl
told Touching = refl
told Interleaved = refl
told (Block marks) = refl
told Full = refl
told Apart = refl

pub same_move_fault : (f g : MoveFault) → move_rank f ≡ move_rank g → move_number f ≡ move_number g → f ≡ g
same_move_fault f g rank number = sym (told f) ∙ (ap₂ fault_at rank number ∙ told g)

-- what an exchange refuses
exchange_found : (a b p q : ℕ) (fault : MoveFault) → exchange_fault (span a b) (span p q) ≡ Some fault
    → (HaveOneEnd a b p q × (Touching ≡ fault)) ⊎ (Interleave a b p q × (Interleaved ≡ fault))
exchange_found a b p q fault found =
    let s = span a b in
    let t = span p q in
    elim (tested (share_an_end s t) Touching fault _ found) [
      | inl at ↦ inl ((shares_one a b p q).0 at.0, at.1)
      | inr apart ↦ elim (refused (are_disjoint s t || are_nested s t) Interleaved fault None apart.1) [
        | inl none ↦ absurd (let never : ◌≡◌ {A = Option MoveFault} None (Some fault) = none.1 in cc)
        | inr at ↦ inr (
          (interleaves_tells a b p q).0
              (and_from (not (share_an_end s t)) (not (are_disjoint s t || are_nested s t)) (not_from_false (share_an_end s t) apart.0)
              (not_from_false (are_disjoint s t || are_nested s t) at.0)),
          at.1,
        )
      ]
    ]

no_end_where_interleaved : (a b p q : ℕ) → Interleave a b p q → HaveOneEnd a b p q → ⊥
no_end_where_interleaved a b p q is one =
    let s = span a b in
    let t = span p q in
    let parts = and_parts (not (share_an_end s t)) (not (are_disjoint s t || are_nested s t)) ((interleaves_tells a b p q).1 is) in
    both_ways (share_an_end s t) (not-true (share_an_end s t) parts.0) ((shares_one a b p q).1 one)

exchange_none : (a b p q : ℕ) → exchange_fault (span a b) (span p q) ≡ None → (HaveOneEnd a b p q → ⊥) × (Interleave a b p q → ⊥)
exchange_none a b p q none =
    let s = span a b in
    let t = span p q in
    let apart = cond_passed (share_an_end s t) Touching _ none in
    let placed = passed (are_disjoint s t || are_nested s t) Interleaved None apart.1 in (
      not_from_Decides (share_an_end s t) (shares_one a b p q) apart.0,
      λ is. both_ways (are_disjoint s t || are_nested s t)
          (not-true (are_disjoint s t || are_nested s t)
          (and_parts (not (share_an_end s t)) (not (are_disjoint s t || are_nested s t)) ((interleaves_tells a b p q).1 is)).1) placed.0,
    )

-- what a slide refuses
slide_found : (a b p q : ℕ) (fault : MoveFault) → slide_fault (span a b) (span p q) ≡ Some fault
    → (HaveBothEnds a b p q × (Touching ≡ fault)) ⊎ ((HaveOneEnd a b p q → ⊥) × (Apart ≡ fault))
slide_found a b p q fault found =
    let s = span a b in
    let t = span p q in
    elim (tested (share_both_ends s t) Touching fault _ found) [
      | inl at ↦ inl ((shares_both a b p q).0 at.0, at.1)
      | inr other ↦ elim (refused (share_an_end s t) Apart fault None other.1) [
        | inl none ↦ absurd (let never : ◌≡◌ {A = Option MoveFault} None (Some fault) = none.1 in cc)
        | inr at ↦ inr (not_from_Decides (share_an_end s t) (shares_one a b p q) at.0, at.1)
      ]
    ]

slide_none : (a b p q : ℕ) → slide_fault (span a b) (span p q) ≡ None → (HaveBothEnds a b p q → ⊥) × HaveOneEnd a b p q
slide_none a b p q none =
    let s = span a b in
    let t = span p q in
    let other = cond_passed (share_both_ends s t) Touching _ none in
    let one = passed (share_an_end s t) Apart None other.1 in
    (not_from_Decides (share_both_ends s t) (shares_both a b p q) other.0, (shares_one a b p q).0 one.0)

both_have_one : (a b p q : ℕ) → HaveBothEnds a b p q → HaveOneEnd a b p q
both_have_one a b p q (inl e) = inl e.0
both_have_one a b p q (inr e) = inr (inl e.0)

-- faults by their variants
each : (Is : MoveFault → Type 0) (P : MoveFault → Type 0) → (Is Range → P Range) → (Is Touching → P Touching) → (Is Interleaved → P Interleaved)
    → ((marks : ℕ) → Is (Block marks) → P (Block marks)) → (Is Full → P Full) → (Is Apart → P Apart) → (fault : MoveFault) → Is fault → P fault
each Is P range touching interleaved block full apart Range is = range is
each Is P range touching interleaved block full apart Touching is = touching is
each Is P range touching interleaved block full apart Interleaved is = interleaved is
each Is P range touching interleaved block full apart (Block marks) is = block marks is
each Is P range touching interleaved block full apart Full is = full is
each Is P range touching interleaved block full apart Apart is = apart is

module _ (d : Diagram) (move : Move) where
  abbrev First : MoveFault → Type 0
  First = IsFirst (IsMoveFault d move) move_rank move_number

  range_first : IsOutOfRange d move → First Range
  range_first fails = lowest_comes_first (IsMoveFault d move) move_rank move_number Range fails refl refl

  -- of the two faults that an exchange in range may have, and of those of a slide
  touching_exchange : (IsOutOfRange d move → ⊥) → IsMoveFault d move Touching → (IsMoveFault d move Interleaved → IsMoveFault d move Touching → ⊥)
      → ((marks : ℕ) → IsMoveFault d move (Block marks) → ⊥) → (IsMoveFault d move Full → ⊥) → (IsMoveFault d move Apart → IsMoveFault d move Touching → ⊥)
      → First Touching
  touching_exchange inside touching interleaved block full apart =
      one_comes_first (IsMoveFault d move) move_rank move_number Touching touching
      (each (IsMoveFault d move) (λ other. other ≡ Touching) (λ is. absurd (inside is)) (λ is. refl) (λ is. absurd (interleaved is touching))
      (λ marks is. absurd (block marks is)) (λ is. absurd (full is)) (λ is. absurd (apart is touching)))

  interleaved_exchange : (IsOutOfRange d move → ⊥) → IsMoveFault d move Interleaved → (IsMoveFault d move Interleaved → IsMoveFault d move Touching → ⊥)
      → ((marks : ℕ) → IsMoveFault d move (Block marks) → ⊥) → (IsMoveFault d move Full → ⊥) → (IsMoveFault d move Apart → ⊥)
      → First Interleaved
  interleaved_exchange inside interleaved touching block full apart =
      one_comes_first (IsMoveFault d move) move_rank move_number Interleaved interleaved
      (each (IsMoveFault d move) (λ other. other ≡ Interleaved) (λ is. absurd (inside is)) (λ is. absurd (touching interleaved is)) (λ is. refl)
      (λ marks is. absurd (block marks is)) (λ is. absurd (full is)) (λ is. absurd (apart is)))

  apart_slide : (IsOutOfRange d move → ⊥) → IsMoveFault d move Apart → (IsMoveFault d move Apart → IsMoveFault d move Touching → ⊥)
      → (IsMoveFault d move Interleaved → ⊥) → ((marks : ℕ) → IsMoveFault d move (Block marks) → ⊥) → (IsMoveFault d move Full → ⊥)
      → First Apart
  apart_slide inside apart touching interleaved block full =
      one_comes_first (IsMoveFault d move) move_rank move_number Apart apart
      (each (IsMoveFault d move) (λ other. other ≡ Apart) (λ is. absurd (inside is)) (λ is. absurd (touching apart is)) (λ is. absurd (interleaved is))
      (λ marks is. absurd (block marks is)) (λ is. absurd (full is)) (λ is. refl))

  full_move : (IsOutOfRange d move → ⊥) → IsMoveFault d move Full → (IsMoveFault d move Touching → ⊥) → (IsMoveFault d move Interleaved → ⊥)
      → ((marks : ℕ) → IsMoveFault d move (Block marks) → ⊥) → (IsMoveFault d move Apart → ⊥) → First Full
  full_move inside full touching interleaved block apart =
      one_comes_first (IsMoveFault d move) move_rank move_number Full full
      (each (IsMoveFault d move) (λ other. other ≡ Full) (λ is. absurd (inside is)) (λ is. absurd (touching is)) (λ is. absurd (interleaved is))
      (λ marks is. absurd (block marks is)) (λ is. refl) (λ is. absurd (apart is)))

  block_move : (IsOutOfRange d move → ⊥) → (marks : ℕ) → IsMoveFault d move (Block marks) → (IsMoveFault d move Touching → ⊥)
      → (IsMoveFault d move Interleaved → ⊥) → ((other : ℕ) → IsMoveFault d move (Block other) → other ≡ marks) → (IsMoveFault d move Full → ⊥)
      → (IsMoveFault d move Apart → ⊥) → First (Block marks)
  block_move inside marks block touching interleaved same full apart =
      one_comes_first (IsMoveFault d move) move_rank move_number (Block marks) block
      (each (IsMoveFault d move) (λ other. other ≡ Block marks) (λ is. absurd (inside is)) (λ is. absurd (touching is)) (λ is. absurd (interleaved is))
      (λ other is. ap (λ (k : ℕ). Block k) (same other is)) (λ is. absurd (full is)) (λ is. absurd (apart is)))

-- a number that is in range
pub shift_inside : (n k : ℕ) → (nat_lt 0 k && nat_lt k n) ≡ true → (k < 1) ⊎ (n ≤ k) → ⊥
shift_inside n k e out =
    let parts = and_parts (nat_lt 0 k) (nat_lt k n) e in
    let least = ltb-true 0 k parts.0 in
    let most = ltb-true k n parts.1 in
    elim out [
      | inl few ↦ absurd (omega (arith, least, few))
      | inr many ↦ absurd (omega (arith, most, many))
    ]

pub shift_outside : (n k : ℕ) → (nat_lt 0 k && nat_lt k n) ≡ false → (k < 1) ⊎ (n ≤ k)
shift_outside n k e = elim (and_cases (nat_lt 0 k) (nat_lt k n) e) [
  | inl few ↦ let le = ltb-false 0 k few in inl (omega (arith, le))
  | inr many ↦ inr (ltb-false k n many)
]

pub below : (a n : ℕ) → nat_lt a n ≡ true → n ≤ a → ⊥
below a n e out = let lt = ltb-true a n e in absurd (omega (arith, lt, out))

block_inside : (a b n : ℕ) → (nat_lt a n && nat_lt b n) ≡ true → (n ≤ a) ⊎ (n ≤ b) → ⊥
block_inside a b n e (inl out) = below a n (and_parts (nat_lt a n) (nat_lt b n) e).0 out
block_inside a b n e (inr out) = below b n (and_parts (nat_lt a n) (nat_lt b n) e).1 out

block_outside : (a b n : ℕ) → (nat_lt a n && nat_lt b n) ≡ false → (n ≤ a) ⊎ (n ≤ b)
block_outside a b n e = elim (and_cases (nat_lt a n) (nat_lt b n) e) [
  | inl out ↦ inl (ltb-false a n out)
  | inr out ↦ inr (ltb-false b n out)
]

abbrev none_is : MoveFault → Option MoveFault → Type 0
none_is fault rest = rest ≡ Some fault → ⊥

no_fault : (fault : MoveFault) → none_is fault None
no_fault fault e = cc

module _ (d : Diagram) where
  abbrev Comes : Move → MoveFault → Type 0
  Comes move fault = IsFirst (IsMoveFault d move) move_rank move_number fault

  shift_columns_first : (k : ℕ) (fault : MoveFault) → shift_fault (size d) k ≡ Some fault → Comes (ShiftColumns k) fault
  shift_columns_first k fault found = elim (refused (nat_lt 0 k && nat_lt k (size d)) Range fault None found) [
    | inl none ↦ absurd (no_fault fault none.1)
    | inr at ↦ subst (Comes (ShiftColumns k)) at.1 (range_first d (ShiftColumns k) (shift_outside (size d) k at.0))
  ]

  shift_rows_first : (k : ℕ) (fault : MoveFault) → shift_fault (size d) k ≡ Some fault → Comes (ShiftRows k) fault
  shift_rows_first k fault found = elim (refused (nat_lt 0 k && nat_lt k (size d)) Range fault None found) [
    | inl none ↦ absurd (no_fault fault none.1)
    | inr at ↦ subst (Comes (ShiftRows k)) at.1 (range_first d (ShiftRows k) (shift_outside (size d) k at.0))
  ]

  exchange_columns_first : (c : ℕ) (fault : MoveFault) → first_move_fault d (ExchangeColumns c) ≡ Some fault → Comes (ExchangeColumns c) fault
  exchange_columns_first c fault found =
      let x = row_of Cross d c in
      let o = row_of Ring d c in
      let y = row_of Cross d (c + 1) in
      let u = row_of Ring d (c + 1) in
      elim (refused (nat_lt (c + 1) (size d)) Range fault _ found) [
        | inl inside ↦ elim (exchange_found x o y u fault inside.1) [
          | inl at ↦ subst (Comes (ExchangeColumns c)) at.1 (touching_exchange d (ExchangeColumns c) (below (c + 1) (size d) inside.0) at.0
              (no_end_where_interleaved x o y u) (λ marks is. is) (λ is. is) (λ is touching. is))
          | inr at ↦ subst (Comes (ExchangeColumns c)) at.1 (interleaved_exchange d (ExchangeColumns c) (below (c + 1) (size d) inside.0) at.0
              (no_end_where_interleaved x o y u) (λ marks is. is) (λ is. is) (λ is. is))
        ]
        | inr at ↦ subst (Comes (ExchangeColumns c)) at.1 (range_first d (ExchangeColumns c) (ltb-false (c + 1) (size d) at.0))
      ]

  exchange_rows_first : (r : ℕ) (fault : MoveFault) → first_move_fault d (ExchangeRows r) ≡ Some fault → Comes (ExchangeRows r) fault
  exchange_rows_first r fault found =
      let x = column_of Cross d r in
      let o = column_of Ring d r in
      let y = column_of Cross d (r + 1) in
      let u = column_of Ring d (r + 1) in
      elim (refused (nat_lt (r + 1) (size d)) Range fault _ found) [
        | inl inside ↦ elim (exchange_found x o y u fault inside.1) [
          | inl at ↦ subst (Comes (ExchangeRows r)) at.1 (touching_exchange d (ExchangeRows r) (below (r + 1) (size d) inside.0) at.0
              (no_end_where_interleaved x o y u) (λ marks is. is) (λ is. is) (λ is touching. is))
          | inr at ↦ subst (Comes (ExchangeRows r)) at.1 (interleaved_exchange d (ExchangeRows r) (below (r + 1) (size d) inside.0) at.0
              (no_end_where_interleaved x o y u) (λ marks is. is) (λ is. is) (λ is. is))
        ]
        | inr at ↦ subst (Comes (ExchangeRows r)) at.1 (range_first d (ExchangeRows r) (ltb-false (r + 1) (size d) at.0))
      ]

  slide_columns_first : (c : ℕ) (fault : MoveFault) → first_move_fault d (SlideColumns c) ≡ Some fault → Comes (SlideColumns c) fault
  slide_columns_first c fault found =
      let x = row_of Cross d c in
      let o = row_of Ring d c in
      let y = row_of Cross d (c + 1) in
      let u = row_of Ring d (c + 1) in
      elim (refused (nat_lt (c + 1) (size d)) Range fault _ found) [
        | inl inside ↦ elim (slide_found x o y u fault inside.1) [
          | inl at ↦ subst (Comes (SlideColumns c)) at.1 (touching_exchange d (SlideColumns c) (below (c + 1) (size d) inside.0) at.0
              (λ is touching. is) (λ marks is. is) (λ is. is) (λ apart touching. apart (both_have_one x o y u touching)))
          | inr at ↦ subst (Comes (SlideColumns c)) at.1 (apart_slide d (SlideColumns c) (below (c + 1) (size d) inside.0) at.0
              (λ apart touching. apart (both_have_one x o y u touching)) (λ is. is) (λ marks is. is) (λ is. is))
        ]
        | inr at ↦ subst (Comes (SlideColumns c)) at.1 (range_first d (SlideColumns c) (ltb-false (c + 1) (size d) at.0))
      ]

  slide_rows_first : (r : ℕ) (fault : MoveFault) → first_move_fault d (SlideRows r) ≡ Some fault → Comes (SlideRows r) fault
  slide_rows_first r fault found =
      let x = column_of Cross d r in
      let o = column_of Ring d r in
      let y = column_of Cross d (r + 1) in
      let u = column_of Ring d (r + 1) in
      elim (refused (nat_lt (r + 1) (size d)) Range fault _ found) [
        | inl inside ↦ elim (slide_found x o y u fault inside.1) [
          | inl at ↦ subst (Comes (SlideRows r)) at.1 (touching_exchange d (SlideRows r) (below (r + 1) (size d) inside.0) at.0
              (λ is touching. is) (λ marks is. is) (λ is. is) (λ apart touching. apart (both_have_one x o y u touching)))
          | inr at ↦ subst (Comes (SlideRows r)) at.1 (apart_slide d (SlideRows r) (below (r + 1) (size d) inside.0) at.0
              (λ apart touching. apart (both_have_one x o y u touching)) (λ is. is) (λ marks is. is) (λ is. is))
        ]
        | inr at ↦ subst (Comes (SlideRows r)) at.1 (range_first d (SlideRows r) (ltb-false (r + 1) (size d) at.0))
      ]

  stabilise_first : (c : ℕ) (kind : Kind) (corner : Corner) (fault : MoveFault) → first_move_fault d (Stabilise c kind corner) ≡ Some fault
      → Comes (Stabilise c kind corner) fault
  stabilise_first c kind corner fault found = elim (refused (nat_lt c (size d)) Range fault _ found) [
    | inl inside ↦ elim (refused (nat_lt (size d) MAX_SIZE) Full fault None inside.1) [
      | inl none ↦ absurd (no_fault fault none.1)
      | inr at ↦ subst (Comes (Stabilise c kind corner)) at.1 (full_move d (Stabilise c kind corner) (below c (size d) inside.0)
          (ltb-false (size d) MAX_SIZE at.0) (λ is. is) (λ is. is) (λ marks is. is) (λ is. is))
    ]
    | inr at ↦ subst (Comes (Stabilise c kind corner)) at.1 (range_first d (Stabilise c kind corner) (ltb-false c (size d) at.0))
  ]

  destabilise_first : (c r : ℕ) (fault : MoveFault) → first_move_fault d (Destabilise c r) ≡ Some fault → Comes (Destabilise c r) fault
  destabilise_first c r fault found = elim (refused (nat_lt (c + 1) (size d) && nat_lt (r + 1) (size d)) Range fault _ found) [
    | inl inside ↦ elim (refused (marks_in_block d c r == 3) (Block (marks_in_block d c r)) fault None inside.1) [
      | inl none ↦ absurd (no_fault fault none.1)
      | inr at ↦ subst (Comes (Destabilise c r)) at.1 (block_move d (Destabilise c r) (block_inside (c + 1) (r + 1) (size d) inside.0)
          (marks_in_block d c r) (refl, eqb-false (marks_in_block d c r) 3 at.0) (λ is. is) (λ is. is) (λ other is. sym is.0) (λ is. is) (λ is. is))
    ]
    | inr at ↦ subst (Comes (Destabilise c r)) at.1 (range_first d (Destabilise c r) (block_outside (c + 1) (r + 1) (size d) at.0))
  ]

  pub move_first : (move : Move) (fault : MoveFault) → first_move_fault d move ≡ Some fault → Comes move fault
  move_first (ShiftColumns k) fault found = shift_columns_first k fault found
  move_first (ShiftRows k) fault found = shift_rows_first k fault found
  move_first (ExchangeColumns c) fault found = exchange_columns_first c fault found
  move_first (ExchangeRows r) fault found = exchange_rows_first r fault found
  move_first (SlideColumns c) fault found = slide_columns_first c fault found
  move_first (SlideRows r) fault found = slide_rows_first r fault found
  move_first (Stabilise c kind corner) fault found = stabilise_first c kind corner fault found
  move_first (Destabilise c r) fault found = destabilise_first c r fault found

  -- where there is no first fault there is none
  abbrev Has : Move → MoveFault → Type 0
  Has move fault = IsMoveFault d move fault

  abbrev Never : MoveFault → Type 0
  Never fault = ⊥

  pub move_holds : (move : Move) → first_move_fault d move ≡ None → (fault : MoveFault) → IsMoveFault d move fault → ⊥
  move_holds (ShiftColumns k) none =
      let inside = passed (nat_lt 0 k && nat_lt k (size d)) Range None none in
      each (Has (ShiftColumns k)) Never (shift_inside (size d) k inside.0) (λ is. is) (λ is. is) (λ marks is. is) (λ is. is) (λ is. is)
  move_holds (ShiftRows k) none =
      let inside = passed (nat_lt 0 k && nat_lt k (size d)) Range None none in
      each (Has (ShiftRows k)) Never (shift_inside (size d) k inside.0) (λ is. is) (λ is. is) (λ marks is. is) (λ is. is) (λ is. is)
  move_holds (ExchangeColumns c) none =
      let inside = passed (nat_lt (c + 1) (size d)) Range _ none in
      let free = exchange_none (row_of Cross d c) (row_of Ring d c) (row_of Cross d (c + 1)) (row_of Ring d (c + 1)) inside.1 in
      each (Has (ExchangeColumns c)) Never (below (c + 1) (size d) inside.0) free.0 free.1 (λ marks is. is) (λ is. is) (λ is. is)
  move_holds (ExchangeRows r) none =
      let inside = passed (nat_lt (r + 1) (size d)) Range _ none in
      let free = exchange_none (column_of Cross d r) (column_of Ring d r) (column_of Cross d (r + 1)) (column_of Ring d (r + 1)) inside.1 in
      each (Has (ExchangeRows r)) Never (below (r + 1) (size d) inside.0) free.0 free.1 (λ marks is. is) (λ is. is) (λ is. is)
  move_holds (SlideColumns c) none =
      let inside = passed (nat_lt (c + 1) (size d)) Range _ none in
      let free = slide_none (row_of Cross d c) (row_of Ring d c) (row_of Cross d (c + 1)) (row_of Ring d (c + 1)) inside.1 in
      each (Has (SlideColumns c)) Never (below (c + 1) (size d) inside.0) free.0 (λ is. is) (λ marks is. is) (λ is. is) (λ is. is free.1)
  move_holds (SlideRows r) none =
      let inside = passed (nat_lt (r + 1) (size d)) Range _ none in
      let free = slide_none (column_of Cross d r) (column_of Ring d r) (column_of Cross d (r + 1)) (column_of Ring d (r + 1)) inside.1 in
      each (Has (SlideRows r)) Never (below (r + 1) (size d) inside.0) free.0 (λ is. is) (λ marks is. is) (λ is. is) (λ is. is free.1)
  move_holds (Stabilise c kind corner) none =
      let inside = passed (nat_lt c (size d)) Range _ none in
      let room = passed (nat_lt (size d) MAX_SIZE) Full None inside.1 in
      each (Has (Stabilise c kind corner)) Never (below c (size d) inside.0) (λ is. is) (λ is. is) (λ marks is. is) (below (size d) MAX_SIZE room.0) (λ is. is)
  move_holds (Destabilise c r) none =
      let inside = passed (nat_lt (c + 1) (size d) && nat_lt (r + 1) (size d)) Range _ none in
      let three = passed (marks_in_block d c r == 3) (Block (marks_in_block d c r)) None inside.1 in
      each (Has (Destabilise c r)) Never (block_inside (c + 1) (r + 1) (size d) inside.0) (λ is. is) (λ is. is)
      (λ marks is. is.1 (sym is.0 ∙ eqb-true (marks_in_block d c r) 3 three.0)) (λ is. is) (λ is. is)
