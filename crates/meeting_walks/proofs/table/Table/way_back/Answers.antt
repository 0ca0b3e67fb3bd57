use Rattle.std.proofs.Common.{◌≡◌, ◌+◌, ◌-◌, ap, arith, ℕ}
use Rattle.meeting_walks.specs.Reached.{forms_back, way_back}
use Rattle.meeting_walks.proofs.WayBack.{one_more, none_there, no_more}
use Rattle.meeting_walks.proofs.table.Table.way_back.Goals as goal

pub loop-form-preserved : goal.loop-form-preserved
loop-form-preserved c =
    let entries = c.args.self.now.entries.entries in
    rw c.in_ok-push.ensures.items (one_more entries (c.from-count.result + 1) c.loop-form._form c.loop-form.number c.in-Some.form c.in-Some.reached
    c.loop-form.way.items (way_back entries c.args.from) c.loop-form-test.true c.in-Some.ensures c.loop-form.invariant)

pub returns-in_default : goal.returns-in_default
returns-in_default c =
    let entries = c.args.self.now.entries.entries in
    let left : ℕ = c.from-count.result + 1 - c.loop-form._form in
    no_more c.loop-form.way.items (forms_back left entries c.loop-form.number) (way_back entries c.args.from)
    (none_there entries left c.loop-form.number c.in_default.ensures) c.loop-form.invariant

pub returns : goal.returns
returns c =
    let entries = c.args.self.now.entries.entries in
    let left : ℕ = c.from-count.result + 1 - c.loop-form._form in
    let done : left ≡ 0 = omega arith in
    no_more c.loop-form.way.items (forms_back left entries c.loop-form.number) (way_back entries c.args.from)
    (ap (λ (n : ℕ). forms_back n entries c.loop-form.number) done) c.loop-form.invariant
