use Rattle.std.proofs.Common.{◌≡◌, ◌<◌, ◌+◌, ◌++◌, ◌∷◌, [], ◌∙◌, ℕ, List, length, set, sym, ap, subst, arith, length-set}
use Rattle.std.proofs.lemmas.List.{length-append}
use Rattle.grid_core.specs.declared.span.Span.{Span}
use Rattle.crossing_codes.specs.Passages.{Crossed}
use Rattle.crossing_codes.specs.Layout.{cell_place, crossings_below, IsNumbered}
use Rattle.crossing_codes.proofs.Members.{Has}
use Rattle.crossing_codes.proofs.NumberSteps.{LieBefore, up_to, crossed, below_before, number_more, before_more, up_to_yes, up_to_no, up_to_none, up_to_all}
use Rattle.crossing_codes.proofs.printed.number_row.Goals as goal
use Rattle.crossing_codes.proofs.printed.number_row.Goals.{then-covers, else-covers}

pub loop-column-init : goal.loop-column-init
loop-column-init c =
    let d = c.args.layout.now in
    let r = c.args.row in
    let k = c.row_span-span.result.low + 1 in
    let low = ap (λ (z : Span). z.low) c.row_span-span.ensures.span in
    let few = c.requires.few in
    let none : up_to d r k ≡ crossings_below d r = up_to_none d r k (omega arith) in
    record {
      number = c.requires.last ∙ ap length (sym none);
      few = omega arith;
      before = λ at h. let b = below_before d c.size-size.ensures.grid r (let l = c.requires.row in omega arith) at
          (subst (λ (xs : List Crossed). Has xs at) none h) in
          omega arith;
      numbers = subst (λ (xs : List Crossed). IsNumbered xs c.args.numbers.now) (sym none) c.requires.numbers;
    }

pub loop-column-preserved : goal.loop-column-preserved
loop-column-preserved c =
    let d = c.args.layout.now in
    let r = c.args.row in
    let k = c.loop-column.column in
    let xs = up_to d r k in
    let table = c.loop-column.numbers in
    let low = ap (λ (z : Span). z.low) c.row_span-span.ensures.span in
    let high = ap (λ (z : Span). z.high) c.row_span-span.ensures.span in
    let least = c.loop-column.auto.column in
    let most = c.loop-column-test.true in
    let so_far = c.loop-column.invariant in
    let few = so_far.few in
    elim c.if-covers.branch [
      | then-covers w ↦
          let next : up_to d r (k + 1) ≡ xs ++ crossed k r ∷ [] = up_to_yes d r k (omega arith) (omega arith) (sym c.covers.ensures ∙ w.if-covers.true) in
          let written = ap length w.numbers-is in
          let long = c.if-covers.array_long in
          let room : w.cell.result < length table =
          omega (arith, written, long, length-set table w.cell.result (c.loop-column.number + 1), w.cell.ensures.within) in
          let n = length-append xs (crossed k r ∷ []) in
          rw (w.number-is, w.numbers-is) (record {
            number = (let e = so_far.number in omega (arith, e, n)) ∙ ap length (sym next);
            few = omega arith;
            before =
                subst (λ (ys : List Crossed). LieBefore (cell_place (k + 1) r) ys) (sym next)
                (before_more xs k r (cell_place k r) (cell_place (k + 1) r) so_far.before (omega arith) (omega arith));
            numbers = subst (λ (ys : List Crossed). IsNumbered ys (set table w.cell.result (c.loop-column.number + 1))) (sym next)
                (number_more xs table k r (c.loop-column.number + 1) w.cell.result w.cell.ensures.is (ap (λ (i : ℕ). i + 1) so_far.number) room
                (subst (λ (i : ℕ). LieBefore i xs) (sym w.cell.ensures.is) so_far.before) so_far.numbers);
          })
      | else-covers w ↦
          let stays : up_to d r (k + 1) ≡ xs = up_to_no d r k (omega arith) (omega arith) (sym c.covers.ensures ∙ w.if-covers.false) in
          rw (w.number-is, w.numbers-is) (record {
            number = so_far.number ∙ ap length (sym stays);
            few = omega arith;
            before = λ at h. let b = so_far.before at (subst (λ (ys : List Crossed). Has ys at) stays h) in omega arith;
            numbers = subst (λ (ys : List Crossed). IsNumbered ys table) (sym stays) so_far.numbers;
          })
    ]

pub returns-clause-last : goal.returns-clause-last
returns-clause-last c =
    let d = c.args.layout.now in
    let r = c.args.row in
    let low = ap (λ (z : Span). z.low) c.row_span-span.ensures.span in
    let high = ap (λ (z : Span). z.high) c.row_span-span.ensures.span in
    let within = c.row_span-span.ensures.within.0 in
    let most = c.loop-column.auto.column-end in
    let end = c.loop-column-test.false in
    c.loop-column.invariant.number ∙ ap length (up_to_all d r c.loop-column.column (omega arith) (omega arith))

pub returns-clause-numbers : goal.returns-clause-numbers
returns-clause-numbers c =
    let d = c.args.layout.now in
    let r = c.args.row in
    let low = ap (λ (z : Span). z.low) c.row_span-span.ensures.span in
    let high = ap (λ (z : Span). z.high) c.row_span-span.ensures.span in
    let within = c.row_span-span.ensures.within.0 in
    let most = c.loop-column.auto.column-end in
    let end = c.loop-column-test.false in
    subst (λ (xs : List Crossed). IsNumbered xs c.loop-column.numbers)
    (up_to_all d r c.loop-column.column (omega arith) (omega arith)) c.loop-column.invariant.numbers
