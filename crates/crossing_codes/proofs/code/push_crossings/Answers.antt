use Rattle.std.proofs.Common.{◌≡◌, ◌<◌, ◌+◌, ◌-◌, ◌++◌, ◌∷◌, [], ◌∙◌, ℕ, true, map, sym, ap, arith}
use Rattle.std.specs.Prelude.{nat_lt}
use Rattle.std.proofs.lemmas.Bool.{and_from, lt-ltb}
use Rattle.grid_core.specs.Parts.{covers, ends}
use Rattle.grid_core.specs.declared.span.Span.{Span}
use Rattle.crossing_codes.specs.declared.crossing.Crossing.{Crossing}
use Rattle.crossing_codes.specs.Code.{crossing}
use Rattle.crossing_codes.proofs.Crossings.{cell}
use Rattle.crossing_codes.proofs.FollowSteps.{met, met_yes, met_no, met_begins, met_ends}
use Rattle.crossing_codes.proofs.code.push_crossings.Goals as goal
use Rattle.crossing_codes.proofs.code.push_crossings.Goals.{then-covers+in_ok-push, else-covers}

pub loop-column-init : goal.loop-column-init
loop-column-init c =
    let d = c.args.layout.now in
    let r = c.args.row in
    let low = ap (λ (z : Span). z.low) c.row_span-span.ensures.span in
    met_begins (λ (b : ℕ). crossing d (cell b r)) (λ b. covers d b r) (ends d r) (c.row_span-span.result.low + 1 - (ends d r).low - 1) c.args.out.now.items
    (omega arith)

pub crossing-requires-clause-across : goal.crossing-requires-clause-across
crossing-requires-clause-across c =
    let s = ends c.args.layout.now c.args.row in
    let k = c.loop-column.column in
    let low = ap (λ (z : Span). z.low) c.row_span-span.ensures.span in
    let high = ap (λ (z : Span). z.high) c.row_span-span.ensures.span in
    let least = c.loop-column.auto.column in
    let most = c.loop-column-test.true in
    and_from (nat_lt s.low k) (nat_lt k s.high) (lt-ltb s.low k (omega arith)) (lt-ltb k s.high (omega arith))

pub loop-column-preserved : goal.loop-column-preserved
loop-column-preserved c =
    let d = c.args.layout.now in
    let r = c.args.row in
    let k = c.loop-column.column in
    let s = ends d r in
    let low = ap (λ (z : Span). z.low) c.row_span-span.ensures.span in
    let high = ap (λ (z : Span). z.high) c.row_span-span.ensures.span in
    let least = c.loop-column.auto.column in
    let most = c.loop-column-test.true in
    let done = k - s.low - 1 in
    let next : k + 1 - s.low - 1 ≡ done + 1 = omega arith in
    let within : s.low + done + 1 < s.high = omega arith in
    let is : k ≡ s.low + 1 + done = omega arith in
    elim c.if-covers.branch [
      | then-covers+in_ok-push w ↦ rw w.out-is
          (met_yes (λ (b : ℕ). crossing d (cell b r)) true
          (λ b. covers d b r) s done k c.args.out.now.items c.loop-column.out.items w.push.new.self.items within is
          (sym c.covers.ensures ∙ w.if-covers.true) c.loop-column.invariant
          (w.in_ok-push.ensures.items ∙ ap (λ (x : Crossing). c.loop-column.out.items ++ x ∷ []) w.crossing.ensures)
          ∙ ap (λ (n : ℕ). c.args.out.now.items ++ map (λ (b : ℕ). crossing d (cell b r)) (met true (λ b. covers d b r) s n)) (sym next))
      | else-covers w ↦ rw w.out-is
          (met_no (λ (b : ℕ). crossing d (cell b r)) true (λ b. covers d b r) s done k c.args.out.now.items c.loop-column.out.items within is
          (sym c.covers.ensures ∙ w.if-covers.false) c.loop-column.invariant
          ∙ ap (λ (n : ℕ). c.args.out.now.items ++ map (λ (b : ℕ). crossing d (cell b r)) (met true (λ b. covers d b r) s n)) (sym next))
    ]

pub returns : goal.returns
returns c =
    let d = c.args.layout.now in
    let r = c.args.row in
    let s = ends d r in
    let k = c.loop-column.column in
    let low = ap (λ (z : Span). z.low) c.row_span-span.ensures.span in
    let high = ap (λ (z : Span). z.high) c.row_span-span.ensures.span in
    let within = c.row_span-span.ensures.within.0 in
    let least = c.loop-column.auto.column in
    let most = c.loop-column.auto.column-end in
    let end = c.loop-column-test.false in
    met_ends (λ (b : ℕ). crossing d (cell b r)) (λ b. covers d b r) s (k - s.low - 1) c.args.out.now.items c.loop-column.out.items (omega arith)
    (omega arith) c.loop-column.invariant
