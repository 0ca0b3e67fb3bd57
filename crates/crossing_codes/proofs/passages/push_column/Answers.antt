use Rattle.std.proofs.Common.{ℕ, true, sym, arith, ◌∙◌, ◌<◌, ◌+◌}
use Rattle.grid_core.specs.Span.{lies_within}
use Rattle.grid_core.specs.Parts.{ends}
use Rattle.crossing_codes.specs.Passages.{through}
use Rattle.crossing_codes.proofs.Crossings.{cell}
use Rattle.crossing_codes.proofs.FollowSteps.{met_yes, met_no}
use Rattle.crossing_codes.proofs.passages.push_column.Goals as goal
use Rattle.crossing_codes.proofs.passages.push_column.Goals.{then-lies_across+in_ok-push, else-lies_across}

pub loop-done-preserved : goal.loop-done-preserved
loop-done-preserved c =
    let d = c.args.layout.now in
    let k = c.args.column in
    let span = c.column_span-span.result in
    let within : span.low + c.loop-done.done + 1 < span.high = omega arith in
    elim c.if-lies_across.branch [
      | then-lies_across+in_ok-push w ↦ rw w.out-is
          (met_yes (λ (r : ℕ). through true (cell k r)) c.is_up-up.result
          (λ r. lies_within (ends d r) k) span c.loop-done.done c.met-row.result c.args.out.now.items c.loop-done.out.items w.push.new.self.items
          within c.met-row.ensures.met (sym c.lies_across.ensures ∙ w.if-lies_across.true) c.loop-done.invariant w.in_ok-push.ensures.items)
      | else-lies_across w ↦ rw w.out-is
          (met_no (λ (r : ℕ). through true (cell k r)) c.is_up-up.result
          (λ r. lies_within (ends d r) k) span c.loop-done.done c.met-row.result c.args.out.now.items c.loop-done.out.items
          within c.met-row.ensures.met (sym c.lies_across.ensures ∙ w.if-lies_across.false) c.loop-done.invariant)
    ]
