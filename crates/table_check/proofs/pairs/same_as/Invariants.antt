use Rattle.table_check.specs.TableHolds.{PairsWith}
use Rattle.table_check.proofs.pairs.same_as.Given as goal

abbrev pub invariant-loop-second : goal.invariant-loop-second
invariant-loop-second l = PairsWith l.table l.first l.second
