use Rattle.std.proofs.Common.{ℕ, false, sym, arith, ◌∙◌, ◌<◌, ◌+◌}
use Rattle.grid_core.specs.Parts.{covers}
use Rattle.crossing_codes.specs.Passages.{through}
use Rattle.crossing_codes.proofs.Crossings.{cell}
use Rattle.crossing_codes.proofs.FollowSteps.{met_yes, met_no}
use Rattle.crossing_codes.proofs.passages.push_row.Goals as goal
use Rattle.crossing_codes.proofs.passages.push_row.Goals.{then-covers+in_ok-push, else-covers}

pub loop-done-preserved : goal.loop-done-preserved
loop-done-preserved c =
    let d = c.args.layout.now in
    let k = c.args.row in
    let span = c.row_span-span.result in
    let within : span.low + c.loop-done.done + 1 < span.high = omega arith in
    elim c.if-covers.branch [
      | then-covers+in_ok-push w ↦ rw w.out-is
          (met_yes (λ (b : ℕ). through false (cell b k)) c.is_rightward-right.result
          (λ b. covers d b k) span c.loop-done.done c.met-column.result c.args.out.now.items c.loop-done.out.items w.push.new.self.items
          within c.met-column.ensures.met (sym c.covers.ensures ∙ w.if-covers.true) c.loop-done.invariant w.in_ok-push.ensures.items)
      | else-covers w ↦ rw w.out-is
          (met_no (λ (b : ℕ). through false (cell b k)) c.is_rightward-right.result
          (λ b. covers d b k) span c.loop-done.done c.met-column.result c.args.out.now.items c.loop-done.out.items
          within c.met-column.ensures.met (sym c.covers.ensures ∙ w.if-covers.false) c.loop-done.invariant)
    ]
