use Rattle.std.proofs.Common.{subst}
use Rattle.grid_core.specs.Diagram.{Diagram}
use Rattle.grid_moves.specs.Step.{Step}
use Rattle.meeting_walks.proofs.Spelled.{shifted_joined}
use Rattle.meeting_walks.proofs.spelling.move_behind.Goals as goal

pub returns-in-Some-clause-joins : goal.returns-in-Some-clause-joins
returns-in-Some-clause-joins c =
    shifted_joined c.args.grid.now c.in-Some.next c.args.shifts.0 c.args.shifts.1 c.in-Some.step c.size-size.ensures.grid c.requires.columns c.requires.rows
    (subst (λ (d : Diagram). Step d c.in-Some.step c.in-Some.next) c.translate-turned.ensures c.in-Some.ensures.moved)
