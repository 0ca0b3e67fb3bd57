use Rattle.table_check.specs.TableHolds.{PairsHold}
use Rattle.table_check.proofs.pairs.pairs_cause.Given as goal

abbrev pub invariant-loop-first : goal.invariant-loop-first
invariant-loop-first l = PairsHold l.table l.first
