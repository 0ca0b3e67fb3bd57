use Rattle.std.proofs.Common.{◌≡◌, ◌∙◌, subst, List, take, reverse, Option, Some, None, arith}
use Rattle.std.proofs.lemmas.List.{take_all}
use Rattle.grid_moves.specs.declared.step.Move.{Move}
use Rattle.grid_moves.specs.declared.step.MoveFault.{MoveFault}
use Rattle.grid_moves.specs.Undoing.{Undone}
use Rattle.grid_moves.proofs.TurnedBack.{undone_more, legal_there, undone_there}
use Rattle.grid_moves.proofs.undoing.inverses.Goals as goal

pub unreachable-requires : goal.unreachable-requires
unreachable-requires c =
    let legal =
    legal_there c.args.moves.now c.loop-step.step-index _ c.args.grid.now c.requires.0 c.loop-step.here
    (reverse c.loop-step.list.items) c.loop-step-test.true c.loop-step.invariant c.requires.1 in
    let no : ◌≡◌ {A = Option MoveFault} (Some c.in-Err.field-0) None = c.in-Err.ensures.fault ∙ legal in
    cc

pub loop-step-preserved : goal.loop-step-preserved
loop-step-preserved c =
    undone_more c.args.moves.now c.loop-step.step-index _ c.args.grid.now c.loop-step.here c.in-Ok.next c.loop-step.list.items c.push.new.self.items c.inverse.result c.loop-step-test.true c.loop-step.invariant c.in-Ok.ensures.moved c.inverse.ensures.is c.in_ok-push-in-Ok.ensures.items

pub returns-clause-undone : goal.returns-clause-undone
returns-clause-undone c = λ e joined.
    let all : take c.loop-step.step-index c.args.moves.now ≡ c.args.moves.now = take_all c.loop-step.step-index c.args.moves.now (omega arith) in
    undone_there c.args.moves.now (reverse c.loop-step.list.items) c.args.grid.now c.loop-step.here e
    (subst (λ (ms : List Move). Undone c.args.grid.now ms c.loop-step.here (reverse c.loop-step.list.items)) all c.loop-step.invariant) joined
