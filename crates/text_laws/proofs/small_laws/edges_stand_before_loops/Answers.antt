use Rattle.text_laws.proofs.Loops.{edges_first, loops_behind}
use Rattle.text_laws.proofs.small_laws.edges_stand_before_loops.Goals as goal

pub returns-clause-edges : goal.returns-clause-edges
returns-clause-edges c = edges_first

pub returns-clause-loops : goal.returns-clause-loops
returns-clause-loops c = loops_behind
