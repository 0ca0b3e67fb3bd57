use Rattle.std.proofs.Common.{Option, IfSome, refl, sym, subst, List}
use Rattle.grid_core.specs.Diagram.{Diagram}
use Rattle.grid_moves.specs.declared.step.Move.{Move}
use Rattle.grid_moves.specs.Joining.{Joins}
use Rattle.meeting_walks.proofs.Spelled.{shifts_on}
use Rattle.meeting_walks.proofs.spelling.spelled.Goals as goal

pub returns : goal.returns
returns c =
    let first : Diagram = c.args.first.now in
    let start = c.new-moves.result.items in
    let old = c.push_path.new.moves.items in
    let none : Joins first start first = subst (λ (moves : List Move). Joins first moves first) (sym c.new-moves.ensures.items) refl in
    let led = subst (λ (end : Option Diagram). IfSome end (λ last. (d : Diagram) → Joins d start first → Joins d old last)) c.in-Some.is c.in_ok-last.ensures in
    let shifts = c.in-Some-shifts_to.ensures.some in
    shifts_on old c.push_shifts.new.list.items first c.in-Some.last c.args.second.now c.in-Some-shifts_to.columns c.in-Some-shifts_to.rows
    c.size-size.ensures.grid shifts.0 shifts.1 shifts.2 c.in_ok-push_shifts.ensures.list (led first none)
