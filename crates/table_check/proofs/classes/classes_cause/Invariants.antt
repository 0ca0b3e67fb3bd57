use Rattle.table_check.specs.TableHolds.{ClassesHold}
use Rattle.table_check.proofs.classes.classes_cause.Given as goal

abbrev pub invariant-loop-at : goal.invariant-loop-at
invariant-loop-at l = ClassesHold l.table l.at
