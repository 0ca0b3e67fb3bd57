use Rattle.text_laws.proofs.Loops.{loops_ascend, loops_are}
use Rattle.text_laws.proofs.small_laws.loops_stand_by_their_least_columns.Goals as goal

pub returns-clause-order : goal.returns-clause-order
returns-clause-order c = loops_ascend

pub returns-clause-loops : goal.returns-clause-loops
returns-clause-loops c = loops_are
