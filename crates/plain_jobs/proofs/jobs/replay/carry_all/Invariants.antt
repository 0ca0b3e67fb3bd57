use Rattle.std.proofs.Common.{take}
use Rattle.colour_rows.specs.Colouring.{IsColouring}
use Rattle.plain_jobs.specs.Jobs.Replay.{Carries}
use Rattle.plain_jobs.proofs.jobs.replay.carry_all.Given as goal

abbrev pub invariant-loop-place : goal.invariant-loop-place
invariant-loop-place l =
    Carries l.quandle l.fn.start.grid l.fn.start.colours.items (take l.place l.steps) l.here.grid l.here.colours.items
    × IsColouring l.quandle l.here.grid l.here.colours.items
