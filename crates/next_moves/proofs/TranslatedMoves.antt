-- A move on a diagram, seen on a translate of it: the same kind of move leads from there to a translate of the result.
use Rattle.std.proofs.Common.{◌≡◌, ◌<◌, ◌+◌, ◌∙◌, ℕ, arith, sym, ap, ap₂, subst}
use Rattle.grid_core.specs.declared.mark.Kind.{Kind}
use Rattle.grid_core.specs.declared.mark.Kind.TheVariants.{Cross, Ring}
use Rattle.grid_core.specs.Diagram.{Diagram, IsGrid, size, row_of}
use Rattle.grid_core.specs.declared.span.Span.{Span}
use Rattle.grid_core.specs.Span.{span}
use Rattle.grid_core.specs.Parts.{column_span, column_of, ends}
use Rattle.grid_core.proofs.Marks.{mark_at, row_below, column_is, column_mark}
use Rattle.grid_moves.specs.declared.step.Move.TheVariants.{ExchangeColumns, ExchangeRows, SlideColumns, SlideRows}
use Rattle.grid_moves.specs.Shift.{shifted}
use Rattle.grid_moves.specs.Renumbered.{Renumbered, unchanged}
use Rattle.grid_moves.specs.Exchange.{exchanged, MayExchange}
use Rattle.grid_moves.specs.Slide.{MaySlide}
use Rattle.grid_moves.specs.Step.{Step}
use Rattle.grid_moves.proofs.Exchanged.{exchanged-below}
use Rattle.grid_keys.specs.Translation.{translate}
use Rattle.grid_keys.proofs.Translated.{origin, origin-below, shifted-origin, shifted-permutes, size-translate, row_of-translate, translate-renumbered}
use Rattle.grid_keys.proofs.Translated.{translate-grid}
use Rattle.next_moves.proofs.Circle.{may_exchange_shifted, may_slide_shifted}
use Rattle.next_moves.proofs.Rounds.{exchanged_along}

-- the column of a mark, in a translate
pub column_of-translate : (d : Diagram) (a b : ℕ) → IsGrid d → a < size d → b < size d → (kind : Kind) (r : ℕ) → r < size d
    → column_of kind (translate d a b) (shifted (size d) b r) ≡ shifted (size d) a (column_of kind d r)
column_of-translate d a b grid ha hb kind r lt =
    column_is (translate d a b) (translate-grid d a b grid ha hb) kind (shifted (size d) a (column_of kind d r)) (shifted (size d) b r)
    ((translate-renumbered d a b grid ha).marks kind (column_of kind d r) r (column_mark d grid kind r lt))

origin_same : (n k : ℕ) → k < n → (b c : ℕ) → b < n → c < n → origin n k b ≡ origin n k c → b ≡ c
origin_same n k hk b c hb hc e = sym (shifted-origin n k b hk hb) ∙ ap (λ (z : ℕ). shifted n k z) e ∙ shifted-origin n k c hk hc

-- where columns c and c + 1 stand in a translate
record AreColumnsAt (d : Diagram) (c q k l : ℕ) : Type 0 where
  columns : k < size d
  rows : l < size d
  inside : q + 1 < size d
  first : origin (size d) k q ≡ c
  second : origin (size d) k (q + 1) ≡ c + 1

-- what two spans of columns may do, they may in a translate
columns_free : (May : Span → Span → Type 0) (d : Diagram) (c q k l : ℕ) → IsGrid d → c + 1 < size d → AreColumnsAt d c q k l
    → ((p r s t : ℕ) → p < size d → r < size d → s < size d → t < size d → May (span p r) (span s t)
    → May (span (shifted (size d) l p) (shifted (size d) l r)) (span (shifted (size d) l s) (shifted (size d) l t)))
    → May (column_span d c) (column_span d (c + 1)) → May (column_span (translate d k l) q) (column_span (translate d k l) (q + 1))
columns_free May d c q k l grid next at kept free =
    let n : ℕ = size d in
    let hc : c < n = omega (arith, next) in
    let span_at : (p : ℕ) → p < n → column_span (translate d k l) p ≡ span (shifted n l (row_of Cross d (origin n k p)))
    (shifted n l (row_of Ring d (origin n k p))) =
    λ p lt. ap₂ (λ (z w : ℕ). span z w) (row_of-translate d k l grid at.columns Cross p lt) (row_of-translate d k l grid at.columns Ring p lt) in
    let near : column_span (translate d k l) q ≡ span (shifted n l (row_of Cross d c)) (shifted n l (row_of Ring d c)) =
    span_at q (omega (arith, at.inside)) ∙ ap (λ (z : ℕ). span (shifted n l (row_of Cross d z)) (shifted n l (row_of Ring d z))) at.first in
    let far : column_span (translate d k l) (q + 1) ≡ span (shifted n l (row_of Cross d (c + 1))) (shifted n l (row_of Ring d (c + 1))) =
    span_at (q + 1) at.inside ∙ ap (λ (z : ℕ). span (shifted n l (row_of Cross d z)) (shifted n l (row_of Ring d z))) at.second in
    let translated =
    kept (row_of Cross d c) (row_of Ring d c) (row_of Cross d (c + 1)) (row_of Ring d (c + 1)) (row_below d grid Cross c hc) (row_below d grid Ring c hc)
    (row_below d grid Cross (c + 1) next) (row_below d grid Ring (c + 1) next) free in
    subst (λ s. May s (column_span (translate d k l) (q + 1))) (sym near)
    (subst (λ s. May (span (shifted n l (row_of Cross d c)) (shifted n l (row_of Ring d c))) s) (sym far) translated)

-- two columns that trade their numbers
columns_renumbered : (d e : Diagram) (c q k l : ℕ) → IsGrid d → IsGrid e → AreColumnsAt d c q k l → Renumbered (exchanged c) unchanged d e
    → Renumbered (exchanged q) unchanged (translate d k l) (translate e k l)
columns_renumbered d e c q k l grid grid' at moved =
    let n : ℕ = size d in
    let same : size e ≡ n = moved.same_size in
    let long : size (translate d k l) ≡ n = size-translate d k l at.columns in
    let ek : k < size e = omega (arith, at.columns, same) in
    record {
      same_size = size-translate e k l ek ∙ same ∙ sym long;
      marks = λ kind p r mark.
          let lt : p < n = omega (arith, mark.inside, long) in
          let translated : exchanged q p < n = exchanged-below q n p at.inside lt in
          let seen = exchanged_along n q c (λ (z : ℕ). origin n k z) (origin_same n k at.columns) at.inside at.first at.second p lt in
          let from : origin n k p < n = origin-below n k p at.columns lt in
          record {
            inside = omega (arith, translated, same, size-translate e k l ek);
            row =
                row_of-translate e k l grid' ek kind (exchanged q p) (omega (arith, translated, same))
                ∙ ap (λ (z : ℕ). shifted z l (row_of kind e (origin z k (exchanged q p)))) same
                ∙ ap (λ (z : ℕ). shifted n l (row_of kind e z)) seen
                ∙ ap (λ (z : ℕ). shifted n l z) ((moved.marks kind (origin n k p) (row_of kind d (origin n k p)) (mark_at d kind (origin n k p) from)).row)
                ∙ sym (row_of-translate d k l grid at.columns kind p lt)
                ∙ mark.row;
          };
    }

-- an exchange of columns
pub exchange_columns_translated : (d e : Diagram) (c q k l : ℕ) → Step d (ExchangeColumns c) e → k < size d → l < size d → q + 1 < size d
    → origin (size d) k q ≡ c → origin (size d) k (q + 1) ≡ c + 1 → Step (translate d k l) (ExchangeColumns q) (translate e k l)
exchange_columns_translated d e c q k l step hk hl inside first second =
    let m = step.marks in
    let same : size e ≡ size d = m.renumbered.same_size in
    let at : AreColumnsAt d c q k l = record { columns = hk; rows = hl; inside = inside; first = first; second = second } in
    record {
      before = translate-grid d k l step.before hk hl;
      after = translate-grid e k l step.after (omega (arith, hk, same)) (omega (arith, hl, same));
      marks = record {
        inside = omega (arith, inside, size-translate d k l hk);
        may_exchange =
            columns_free MayExchange d c q k l step.before m.inside at
            (λ p r s t hp hr hs ht free. may_exchange_shifted (size d) l p r s t hl hp hr hs ht free) m.may_exchange;
        renumbered = columns_renumbered d e c q k l step.before step.after at m.renumbered;
      };
    }

-- a slide of columns
pub slide_columns_translated : (d e : Diagram) (c q k l : ℕ) → Step d (SlideColumns c) e → k < size d → l < size d → q + 1 < size d → origin (size d) k q ≡ c
    → origin (size d) k (q + 1) ≡ c + 1 → Step (translate d k l) (SlideColumns q) (translate e k l)
slide_columns_translated d e c q k l step hk hl inside first second =
    let m = step.marks in
    let same : size e ≡ size d = m.renumbered.same_size in
    let at : AreColumnsAt d c q k l = record { columns = hk; rows = hl; inside = inside; first = first; second = second } in
    record {
      before = translate-grid d k l step.before hk hl;
      after = translate-grid e k l step.after (omega (arith, hk, same)) (omega (arith, hl, same));
      marks = record {
        inside = omega (arith, inside, size-translate d k l hk);
        may_slide =
            columns_free MaySlide d c q k l step.before m.inside at
            (λ p r s t hp hr hs ht free. may_slide_shifted (size d) l p r s t hl hp hr hs ht free) m.may_slide;
        renumbered = columns_renumbered d e c q k l step.before step.after at m.renumbered;
      };
    }

-- where rows r and r + 1 stand in a translate
record AreRowsAt (d : Diagram) (r q k l : ℕ) : Type 0 where
  columns : k < size d
  rows : l < size d
  inside : q + 1 < size d
  first : shifted (size d) l r ≡ q
  second : shifted (size d) l (r + 1) ≡ q + 1

-- what the ends of two rows may do, they may in a translate
rows_free : (May : Span → Span → Type 0) (d : Diagram) (r q k l : ℕ) → IsGrid d → r + 1 < size d → AreRowsAt d r q k l
    → ((p s t u : ℕ) → p < size d → s < size d → t < size d → u < size d → May (span p s) (span t u)
    → May (span (shifted (size d) k p) (shifted (size d) k s)) (span (shifted (size d) k t) (shifted (size d) k u)))
    → May (ends d r) (ends d (r + 1)) → May (ends (translate d k l) q) (ends (translate d k l) (q + 1))
rows_free May d r q k l grid next at kept free =
    let n : ℕ = size d in
    let hr : r < n = omega (arith, next) in
    let stands : (kind : Kind) (s p : ℕ) → s < n → shifted n l s ≡ p → column_of kind (translate d k l) p ≡ shifted n k (column_of kind d s) =
    λ kind s p lt is. ap (λ (z : ℕ). column_of kind (translate d k l) z) (sym is) ∙ column_of-translate d k l grid at.columns at.rows kind s lt in
    let near : ends (translate d k l) q ≡ span (shifted n k (column_of Cross d r)) (shifted n k (column_of Ring d r)) =
    ap₂ (λ (z w : ℕ). span z w) (stands Cross r q hr at.first) (stands Ring r q hr at.first) in
    let far : ends (translate d k l) (q + 1) ≡ span (shifted n k (column_of Cross d (r + 1))) (shifted n k (column_of Ring d (r + 1))) =
    ap₂ (λ (z w : ℕ). span z w) (stands Cross (r + 1) (q + 1) next at.second) (stands Ring (r + 1) (q + 1) next at.second) in
    let below : (kind : Kind) (s : ℕ) → s < n → column_of kind d s < n = λ kind s lt. (column_mark d grid kind s lt).inside in
    let translated =
    kept (column_of Cross d r) (column_of Ring d r) (column_of Cross d (r + 1)) (column_of Ring d (r + 1)) (below Cross r hr) (below Ring r hr)
    (below Cross (r + 1) next) (below Ring (r + 1) next) free in
    subst (λ s. May s (ends (translate d k l) (q + 1))) (sym near)
    (subst (λ s. May (span (shifted n k (column_of Cross d r)) (shifted n k (column_of Ring d r))) s) (sym far) translated)

-- two rows that trade their numbers
rows_renumbered : (d e : Diagram) (r q k l : ℕ) → IsGrid d → IsGrid e → r + 1 < size d → AreRowsAt d r q k l → Renumbered unchanged (exchanged r) d e
    → Renumbered unchanged (exchanged q) (translate d k l) (translate e k l)
rows_renumbered d e r q k l grid grid' next at moved =
    let n : ℕ = size d in
    let same : size e ≡ n = moved.same_size in
    let long : size (translate d k l) ≡ n = size-translate d k l at.columns in
    let ek : k < size e = omega (arith, at.columns, same) in
    record {
      same_size = size-translate e k l ek ∙ same ∙ sym long;
      marks = λ kind p s mark.
          let lt : p < n = omega (arith, mark.inside, long) in
          let from : origin n k p < n = origin-below n k p at.columns lt in
          let low : row_of kind d (origin n k p) < n = row_below d grid kind (origin n k p) from in
          let seen =
          exchanged_along n r q (λ (z : ℕ). shifted n l z) ((shifted-permutes n l at.rows).same) next at.first at.second (row_of kind d (origin n k p)) low in
          record {
            inside = omega (arith, lt, same, size-translate e k l ek);
            row =
                row_of-translate e k l grid' ek kind p (omega (arith, lt, same))
                ∙ ap (λ (z : ℕ). shifted z l (row_of kind e (origin z k p))) same
                ∙ ap (λ (z : ℕ). shifted n l z) ((moved.marks kind (origin n k p) (row_of kind d (origin n k p)) (mark_at d kind (origin n k p) from)).row)
                ∙ seen
                ∙ ap (λ (z : ℕ). exchanged q z) (sym (row_of-translate d k l grid at.columns kind p lt) ∙ mark.row);
          };
    }

-- an exchange of rows
pub exchange_rows_translated : (d e : Diagram) (r q k l : ℕ) → Step d (ExchangeRows r) e → k < size d → l < size d → q + 1 < size d
    → shifted (size d) l r ≡ q → shifted (size d) l (r + 1) ≡ q + 1 → Step (translate d k l) (ExchangeRows q) (translate e k l)
exchange_rows_translated d e r q k l step hk hl inside first second =
    let m = step.marks in
    let same : size e ≡ size d = m.renumbered.same_size in
    let at : AreRowsAt d r q k l = record { columns = hk; rows = hl; inside = inside; first = first; second = second } in
    record {
      before = translate-grid d k l step.before hk hl;
      after = translate-grid e k l step.after (omega (arith, hk, same)) (omega (arith, hl, same));
      marks = record {
        inside = omega (arith, inside, size-translate d k l hk);
        may_exchange =
            rows_free MayExchange d r q k l step.before m.inside at
            (λ p s t u hp hs ht hu free. may_exchange_shifted (size d) k p s t u hk hp hs ht hu free) m.may_exchange;
        renumbered = rows_renumbered d e r q k l step.before step.after m.inside at m.renumbered;
      };
    }

-- a slide of rows
pub slide_rows_translated : (d e : Diagram) (r q k l : ℕ) → Step d (SlideRows r) e → k < size d → l < size d → q + 1 < size d → shifted (size d) l r ≡ q
    → shifted (size d) l (r + 1) ≡ q + 1 → Step (translate d k l) (SlideRows q) (translate e k l)
slide_rows_translated d e r q k l step hk hl inside first second =
    let m = step.marks in
    let same : size e ≡ size d = m.renumbered.same_size in
    let at : AreRowsAt d r q k l = record { columns = hk; rows = hl; inside = inside; first = first; second = second } in
    record {
      before = translate-grid d k l step.before hk hl;
      after = translate-grid e k l step.after (omega (arith, hk, same)) (omega (arith, hl, same));
      marks = record {
        inside = omega (arith, inside, size-translate d k l hk);
        may_slide =
            rows_free MaySlide d r q k l step.before m.inside at
            (λ p s t u hp hs ht hu free. may_slide_shifted (size d) k p s t u hk hp hs ht hu free) m.may_slide;
        renumbered = rows_renumbered d e r q k l step.before step.after m.inside at m.renumbered;
      };
    }
