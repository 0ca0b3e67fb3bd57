use Rattle.table_check.proofs.Causes.{accepted_where_table_holds, holds_where_accepted}
use Rattle.std.proofs.Common.{subst}
use Rattle.table_check.proofs.Claims.{AreLawful, rows_joined, classes_apart, rows_apart}
use Rattle.table_check.proofs.ruling.rule.Goals as goal

pub returns-clause-accepted : goal.returns-clause-accepted
returns-clause-accepted c = accepted_where_table_holds c.args.table.now c.in_ok-ruling.ruling c.in_ok-ruling.ensures.ruling

pub returns-clause-joined : goal.returns-clause-joined
returns-clause-joined c = λ is. rows_joined c.args.table.now (holds_where_accepted c.args.table.now c.in_ok-ruling.ruling c.in_ok-ruling.ensures.ruling is)

pub returns-clause-classes : goal.returns-clause-classes
returns-clause-classes c = λ is.
    let lawful : AreLawful c.args.table.now.blocks =
    subst AreLawful c.as_slice.ensures (c.laws_of_each.ensures.quandles, c.laws_of_each.ensures.cocycles) in
    classes_apart c.args.table.now lawful (holds_where_accepted c.args.table.now c.in_ok-ruling.ruling c.in_ok-ruling.ensures.ruling is)

pub returns-clause-apart : goal.returns-clause-apart
returns-clause-apart c = λ is.
    let lawful : AreLawful c.args.table.now.blocks =
    subst AreLawful c.as_slice.ensures (c.laws_of_each.ensures.quandles, c.laws_of_each.ensures.cocycles) in
    rows_apart c.args.table.now lawful (holds_where_accepted c.args.table.now c.in_ok-ruling.ruling c.in_ok-ruling.ensures.ruling is)
