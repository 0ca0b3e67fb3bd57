use Rattle.std.proofs.Common.{◌∙◌, List, sym, arith, ap, subst}
use Rattle.grid_core.specs.Diagram.{size}
use Rattle.grid_moves.specs.declared.step.Move.{Move}
use Rattle.grid_moves.specs.Joining.{Joins, JoinsWithin}
use Rattle.grid_moves.specs.Tidy.{is_tidy}
use Rattle.grid_canon.proofs.Tidied.{tidied_from, tidied_joins, tidied_is_tidy}
use Rattle.grid_canon.proofs.Making.{making_starts, next_step, making_more, making_ends}
use Rattle.grid_canon.proofs.tidying.tidy.Goals as goal

pub loop-step-init : goal.loop-step-init
loop-step-init c =
    making_starts c.args.first.now c.args.steps.now c.new-list.result.items c.size.result c.size.ensures.grid c.requires c.new-list.ensures.items c.size.ensures.size

pub taken-requires-clause-legal : goal.taken-requires-clause-legal
taken-requires-clause-legal c =
    next_step c.args.first.now c.args.steps.now c.loop-step.step-index c.loop-step.list.items c.loop-step.run _ c.loop-step-test.true c.loop-step.invariant

pub taken-requires-clause-columns : goal.taken-requires-clause-columns
taken-requires-clause-columns c = c.loop-step.invariant.run_is.columns

pub taken-requires-clause-rows : goal.taken-requires-clause-rows
taken-requires-clause-rows c = c.loop-step.invariant.run_is.rows

pub loop-step-preserved : goal.loop-step-preserved
loop-step-preserved c =
    making_more c.args.first.now c.args.steps.now c.loop-step.step-index c.loop-step.list.items c.taken.new.list.items
    c.loop-step.run c.in_ok-run.run' _ c.loop-step-test.true c.loop-step.invariant
    (record { columns = c.in_ok-run.ensures.columns; rows = c.in_ok-run.ensures.rows }) c.in_ok-run.ensures.size c.in_ok-run.ensures.list

pub returns-clause-is : goal.returns-clause-is
returns-clause-is c =
    making_ends c.args.first.now c.args.steps.now c.loop-step.step-index c.loop-step.list.items c.push_shifts.new.list.items c.loop-step.run (omega arith)
    c.loop-step.invariant c.in_ok-push_shifts.ensures.list

pub returns-clause-tidy : goal.returns-clause-tidy
returns-clause-tidy c =
    let is = making_ends c.args.first.now c.args.steps.now c.loop-step.step-index c.loop-step.list.items c.push_shifts.new.list.items c.loop-step.run
    (omega arith) c.loop-step.invariant c.in_ok-push_shifts.ensures.list in
    ap (λ (ms : List Move). is_tidy ms) is ∙ tidied_is_tidy c.args.steps.now (size c.args.first.now)

pub returns-clause-joins : goal.returns-clause-joins
returns-clause-joins c = λ e joined.
    let is = making_ends c.args.first.now c.args.steps.now c.loop-step.step-index c.loop-step.list.items c.push_shifts.new.list.items c.loop-step.run
    (omega arith) c.loop-step.invariant c.in_ok-push_shifts.ensures.list in
    subst (λ (ms : List Move). Joins c.args.first.now ms e) (sym is) (tidied_joins c.args.steps.now c.args.first.now e c.size.ensures.grid joined)

pub returns-clause-within : goal.returns-clause-within
returns-clause-within c = λ cap e joined.
    let is = making_ends c.args.first.now c.args.steps.now c.loop-step.step-index c.loop-step.list.items c.push_shifts.new.list.items c.loop-step.run
    (omega arith) c.loop-step.invariant c.in_ok-push_shifts.ensures.list in
    subst (λ (ms : List Move). JoinsWithin cap c.args.first.now ms e) (sym is) (tidied_from cap c.args.steps.now c.args.first.now e c.size.ensures.grid joined)
