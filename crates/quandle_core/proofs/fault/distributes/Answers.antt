use Rattle.std.proofs.Common.{arith}
use Rattle.quandle_core.specs.Quandle.{Table}
use Rattle.quandle_core.proofs.Accepted.{all_within}
use Rattle.quandle_core.proofs.fault.distributes.Goals as goal

pub entry-left-requires-clause-place : goal.entry-left-requires-clause-place
entry-left-requires-clause-place c =
    let t : Table = record { order = c.args.order; entries = c.args.table.now } in
    (omega (arith, c.entry.ensures, all_within t c.requires.within c.args.x c.args.y c.requires.cases.0 c.requires.cases.1), c.requires.cases.2)

pub entry-requires-4-clause-place : goal.entry-requires-4-clause-place
entry-requires-4-clause-place c =
    let t : Table = record { order = c.args.order; entries = c.args.table.now } in (
      omega (arith, c.entry-2.ensures, all_within t c.requires.within c.args.x c.args.z c.requires.cases.0 c.requires.cases.2),
      omega (arith, c.entry-3.ensures, all_within t c.requires.within c.args.y c.args.z c.requires.cases.1 c.requires.cases.2),
    )
