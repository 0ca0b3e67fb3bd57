-- The moves that lead back.
use Rattle.std.proofs.Common.{◌≡◌, ◌<◌, ◌+◌, ◌-◌, ◌∙◌, ◌||◌, ◌&&◌, ◌==◌, ℕ, true, false, nat_lt, arith, sym, refl, ap, ap₂, subst}
use Rattle.std.proofs.lemmas.Bool.Decides.{nat_tests}
use Rattle.grid_core.specs.declared.mark.Kind.{Kind}
use Rattle.grid_core.specs.declared.mark.Kind.TheVariants.{Cross, Ring}
use Rattle.grid_core.specs.declared.mark.Corner.{Corner}
use Rattle.grid_core.specs.declared.span.Span.{Span}
use Rattle.grid_core.specs.Diagram.{Diagram, IsGrid, size, row_of}
use Rattle.grid_core.specs.Span.{span}
use Rattle.grid_core.specs.Parts.{column_span, column_of, ends}
use Rattle.grid_core.proofs.Marks.{mark_at, row_below, column_is, column_mark}
use Rattle.grid_moves.specs.declared.step.Move.{Move}
use Rattle.grid_moves.specs.declared.step.Move.TheVariants.{ShiftColumns, ShiftRows, ExchangeColumns, ExchangeRows, SlideColumns, SlideRows, Stabilise}
use Rattle.grid_moves.specs.declared.step.Move.TheVariants.{Destabilise}
use Rattle.grid_moves.specs.Renumbered.{Renumbered, unchanged}
use Rattle.grid_moves.specs.Shift.{shifted}
use Rattle.grid_moves.specs.Exchange.{exchanged, MayExchange}
use Rattle.grid_moves.specs.Slide.{MaySlide}
use Rattle.grid_moves.specs.Stabilisation.{Stabilises}
use Rattle.grid_moves.specs.BlockMarks.{block_kind, block_corner}
use Rattle.grid_moves.specs.Inverse.{inverse_of}
use Rattle.grid_moves.specs.Step.{Step}
use Rattle.grid_moves.proofs.Renumbering.{unchanged-permutes, renumbered_back}
use Rattle.grid_moves.proofs.Exchanged.{exchanged-permutes, exchanged-twice}
use Rattle.grid_moves.proofs.Shifted.{shifted-permutes, shifted_round}
use Rattle.grid_moves.proofs.Blocks.{block_made}
use Rattle.grid_moves.proofs.BlockTests.{block_three, block_kind_is, block_corner_is}

-- shift by k, then by n - k
pub shift_columns_back : (k : ℕ) (d e : Diagram) → Step d (ShiftColumns k) e → Step e (ShiftColumns (size d - k)) d
shift_columns_back k d e step =
    let m = step.marks in
    let n : size d ≡ size e = sym m.renumbered.same_size in
    let back =
    renumbered_back (shifted (size d) k) unchanged (shifted (size d) (size d - k)) unchanged d e (shifted-permutes (size d) k m.least m.most) step.before
    (λ c lt. shifted_round (size d) k c m.least m.most lt) (λ r lt. refl) m.renumbered in
    record {
      before = step.after;
      after = step.before;
      marks = record {
        least = omega (arith, m.most);
        most = omega (arith, n, m.least, m.most);
        renumbered = subst (λ (z : ℕ). Renumbered (shifted z (size d - k)) unchanged e d) n back;
      };
    }

pub shift_rows_back : (k : ℕ) (d e : Diagram) → Step d (ShiftRows k) e → Step e (ShiftRows (size d - k)) d
shift_rows_back k d e step =
    let m = step.marks in
    let n : size d ≡ size e = sym m.renumbered.same_size in
    let back =
    renumbered_back unchanged (shifted (size d) k) unchanged (shifted (size d) (size d - k)) d e (unchanged-permutes (size d)) step.before (λ c lt. refl)
    (λ r lt. shifted_round (size d) k r m.least m.most lt) m.renumbered in
    record {
      before = step.after;
      after = step.before;
      marks = record {
        least = omega (arith, m.most);
        most = omega (arith, n, m.least, m.most);
        renumbered = subst (λ (z : ℕ). Renumbered unchanged (shifted z (size d - k)) e d) n back;
      };
    }

-- an exchange, twice
share_turned : (a b c d : ℕ) → ((a == c) || (a == d) || (b == c) || (b == d)) ≡ false → ((c == a) || (c == b) || (d == a) || (d == b)) ≡ false
share_turned a b c d e = grind (arith, nat_tests)

placed_turned : (a b c d : ℕ) → ((nat_lt b c || nat_lt d a) || ((nat_lt a c && nat_lt d b) || (nat_lt c a && nat_lt b d))) ≡ true
    → ((nat_lt d a || nat_lt b c) || ((nat_lt c a && nat_lt b d) || (nat_lt a c && nat_lt d b))) ≡ true
placed_turned a b c d e = grind (arith, nat_tests)

exchange_turned : (s t : Span) → MayExchange s t → MayExchange t s
exchange_turned s t free = record {
  different = share_turned s.low s.high t.low t.high free.different;
  placed = placed_turned s.low s.high t.low t.high free.placed;
}

exchanged_at : (c : ℕ) → exchanged c c ≡ c + 1
exchanged_at c = grind (arith, nat_tests)

exchanged_next : (c : ℕ) → exchanged c (c + 1) ≡ c
exchanged_next c = grind (arith, nat_tests)

-- two columns (or two rows) have traded their marks
columns_traded : (c : ℕ) (d e : Diagram) → c + 1 < size d → Renumbered (exchanged c) unchanged d e
    → (column_span e c ≡ column_span d (c + 1)) × (column_span e (c + 1) ≡ column_span d c)
columns_traded c d e inside renumbered =
    let row : (kind : Kind) (b f : ℕ) → b < size d → exchanged c b ≡ f → row_of kind e f ≡ row_of kind d b =
    λ kind b f lt is. ap (λ (z : ℕ). row_of kind e z) (sym is) ∙ (renumbered.marks kind b (row_of kind d b) (mark_at d kind b lt)).row in
    let first : c < size d = omega arith in (
      ap₂ (λ (a b : ℕ). span a b) (row Cross (c + 1) c inside (exchanged_next c)) (row Ring (c + 1) c inside (exchanged_next c)),
      ap₂ (λ (a b : ℕ). span a b) (row Cross c (c + 1) first (exchanged_at c)) (row Ring c (c + 1) first (exchanged_at c)),
    )

rows_traded : (r : ℕ) (d e : Diagram) → IsGrid d → IsGrid e → r + 1 < size d → Renumbered unchanged (exchanged r) d e
    → (ends e r ≡ ends d (r + 1)) × (ends e (r + 1) ≡ ends d r)
rows_traded r d e grid grid' inside renumbered =
    let first : r < size d = omega arith in
    let column : (kind : Kind) (s f : ℕ) → s < size d → exchanged r s ≡ f → column_of kind e f ≡ column_of kind d s =
    λ kind s f lt is.
    let mark = renumbered.marks kind (column_of kind d s) s (column_mark d grid kind s lt) in
    column_is e grid' kind (column_of kind d s) f (record { inside = mark.inside; row = mark.row ∙ is }) in (
      ap₂ (λ (a b : ℕ). span a b) (column Cross (r + 1) r inside (exchanged_next r)) (column Ring (r + 1) r inside (exchanged_next r)),
      ap₂ (λ (a b : ℕ). span a b) (column Cross r (r + 1) first (exchanged_at r)) (column Ring r (r + 1) first (exchanged_at r)),
    )

pub exchange_columns_back : (c : ℕ) (d e : Diagram) → Step d (ExchangeColumns c) e → Step e (ExchangeColumns c) d
exchange_columns_back c d e step =
    let m = step.marks in
    let inside = m.inside in
    let traded = columns_traded c d e inside m.renumbered in
    record {
      before = step.after;
      after = step.before;
      marks = record {
        inside = omega (arith, m.renumbered.same_size, inside);
        may_exchange =
            subst (λ s. MayExchange s (column_span e (c + 1))) (sym traded.0)
            (subst (λ s. MayExchange (column_span d (c + 1)) s) (sym traded.1) (exchange_turned (column_span d c) (column_span d (c + 1)) m.may_exchange));
        renumbered =
            renumbered_back (exchanged c) unchanged (exchanged c) unchanged d e (exchanged-permutes c (size d) inside) step.before (λ b lt. exchanged-twice c b)
            (λ r lt. refl) m.renumbered;
      };
    }

pub exchange_rows_back : (r : ℕ) (d e : Diagram) → Step d (ExchangeRows r) e → Step e (ExchangeRows r) d
exchange_rows_back r d e step =
    let m = step.marks in
    let inside = m.inside in
    let traded = rows_traded r d e step.before step.after inside m.renumbered in
    record {
      before = step.after;
      after = step.before;
      marks = record {
        inside = omega (arith, m.renumbered.same_size, inside);
        may_exchange =
            subst (λ s. MayExchange s (ends e (r + 1))) (sym traded.0)
            (subst (λ s. MayExchange (ends d (r + 1)) s) (sym traded.1) (exchange_turned (ends d r) (ends d (r + 1)) m.may_exchange));
        renumbered =
            renumbered_back unchanged (exchanged r) unchanged (exchanged r) d e (unchanged-permutes (size d)) step.before (λ c lt. refl)
            (λ s lt. exchanged-twice r s) m.renumbered;
      };
    }

-- a slide, twice
touch_turned : (a b c d : ℕ) → ((a == c) || (a == d) || (b == c) || (b == d)) ≡ true → ((c == a) || (c == b) || (d == a) || (d == b)) ≡ true
touch_turned a b c d e = grind (arith, nat_tests)

both_turned : (a b c d : ℕ) → ((a == c) && (b == d)) ≡ false → ((c == a) && (d == b)) ≡ false
both_turned a b c d e = grind (arith, nat_tests)

slide_turned : (s t : Span) → MaySlide s t → MaySlide t s
slide_turned s t free = record {
  shared = touch_turned s.low s.high t.low t.high free.shared;
  not_both = both_turned s.low s.high t.low t.high free.not_both;
}

pub slide_columns_back : (c : ℕ) (d e : Diagram) → Step d (SlideColumns c) e → Step e (SlideColumns c) d
slide_columns_back c d e step =
    let m = step.marks in
    let inside = m.inside in
    let traded = columns_traded c d e inside m.renumbered in
    record {
      before = step.after;
      after = step.before;
      marks = record {
        inside = omega (arith, m.renumbered.same_size, inside);
        may_slide =
            subst (λ s. MaySlide s (column_span e (c + 1))) (sym traded.0)
            (subst (λ s. MaySlide (column_span d (c + 1)) s) (sym traded.1) (slide_turned (column_span d c) (column_span d (c + 1)) m.may_slide));
        renumbered =
            renumbered_back (exchanged c) unchanged (exchanged c) unchanged d e (exchanged-permutes c (size d) inside) step.before (λ b lt. exchanged-twice c b)
            (λ r lt. refl) m.renumbered;
      };
    }

pub slide_rows_back : (r : ℕ) (d e : Diagram) → Step d (SlideRows r) e → Step e (SlideRows r) d
slide_rows_back r d e step =
    let m = step.marks in
    let inside = m.inside in
    let traded = rows_traded r d e step.before step.after inside m.renumbered in
    record {
      before = step.after;
      after = step.before;
      marks = record {
        inside = omega (arith, m.renumbered.same_size, inside);
        may_slide =
            subst (λ s. MaySlide s (ends e (r + 1))) (sym traded.0)
            (subst (λ s. MaySlide (ends d (r + 1)) s) (sym traded.1) (slide_turned (ends d r) (ends d (r + 1)) m.may_slide));
        renumbered =
            renumbered_back unchanged (exchanged r) unchanged (exchanged r) d e (unchanged-permutes (size d)) step.before (λ c lt. refl)
            (λ s lt. exchanged-twice r s) m.renumbered;
      };
    }

-- a stabilisation, then the destabilisation of its block
pub stabilise_back : (c : ℕ) (kind : Kind) (corner : Corner) (d e : Diagram) → Step d (Stabilise c kind corner) e → Step e (Destabilise c (row_of kind d c)) d
stabilise_back c kind corner d e step =
    let r : ℕ = step.marks.1.0 in
    let stab : Stabilises c kind corner r d e = step.marks.1.1 in
    let is : r ≡ row_of kind d c = sym stab.marked.row in
    let low : r < size d = omega (arith, is, row_below d step.before kind c stab.marked.inside) in
    let columns : c + 1 < size e = omega (arith, stab.larger, stab.marked.inside) in
    subst (λ (z : ℕ). Step e (Destabilise c z) d) is
    (record {
      before = step.after;
      after = step.before;
      marks = record {
        columns = columns;
        rows = omega (arith, stab.larger, low);
        three = block_three c r kind corner e step.after columns (block_made c r kind corner d e step.before stab);
        kind = kind;
        corner = corner;
        undone = stab;
      };
    })

-- a destabilisation, then the stabilisation that its block shows
pub destabilise_back : (c r : ℕ) (d e : Diagram) → Step d (Destabilise c r) e → Step e (Stabilise c (block_kind d c r) (block_corner d c r)) d
destabilise_back c r d e step =
    let m = step.marks in
    let block = block_made c r m.kind m.corner e d step.after m.undone in
    let kind_is = block_kind_is c r m.kind m.corner d step.before m.columns block in
    let corner_is = block_corner_is c r m.kind m.corner d step.before m.columns block in
    record {
      before = step.after;
      after = step.before;
      marks = (
        omega (arith, m.undone.larger, step.before.most),
        (r, subst (λ k. Stabilises c k (block_corner d c r) r e d) (sym kind_is) (subst (λ t. Stabilises c m.kind t r e d) (sym corner_is) m.undone)),
      );
    }

-- each move, and then its inverse
pub step_undone : (d : Diagram) (move : Move) (e : Diagram) → Step d move e → Step e (inverse_of d move) d
step_undone d (ShiftColumns k) e step = shift_columns_back k d e step
step_undone d (ShiftRows k) e step = shift_rows_back k d e step
step_undone d (ExchangeColumns c) e step = exchange_columns_back c d e step
step_undone d (ExchangeRows r) e step = exchange_rows_back r d e step
step_undone d (SlideColumns c) e step = slide_columns_back c d e step
step_undone d (SlideRows r) e step = slide_rows_back r d e step
step_undone d (Stabilise c kind corner) e step = stabilise_back c kind corner d e step
step_undone d (Destabilise c r) e step = destabilise_back c r d e step
