use Rattle.std.proofs.Common.{◌≡◌, ◌+◌, ◌∙◌, sym, arith}
use Rattle.std.specs.Prelude.{nat_lt, if◌then◌else◌}
use Rattle.std.proofs.lemmas.Bool.{cond-true, cond-false, lt-ltb, le-ltb}
use Rattle.crossing_codes.proofs.RouteSteps.{leads_more}
use Rattle.crossing_codes.proofs.edges.push_leads.Goals as goal
use Rattle.crossing_codes.proofs.edges.push_leads.Goals.{then-done-count, else-done-count}

pub loop-done-preserved : goal.loop-done-preserved
loop-done-preserved c =
    let b = c.args.before in
    let p = c.args.count in
    let t = c.loop-done.done + 1 in
    let next : c.if-done-count.next ≡ (if nat_lt t p then b + t + 1 else b + 1) = elim c.if-done-count.branch [
      | then-done-count w ↦ w.next-is ∙ sym (cond-true (nat_lt t p) (b + t + 1) (b + 1) (lt-ltb t p w.if-done-count.true) ∙ omega arith)
      | else-done-count w ↦ w.next-is ∙ sym (cond-false (nat_lt t p) (b + t + 1) (b + 1) (le-ltb t p w.if-done-count.false))
    ] in
    leads_more b p c.loop-done.done c.if-done-count.next c.args.after.now.items c.loop-done.after.items c.push.new.self.items next c.in_ok-push.ensures.items c.loop-done.invariant
