use Rattle.std.proofs.Common.{◌<◌, ℕ}
use Rattle.table_check.specs.TableHolds.{ShownAt}
use Rattle.table_check.proofs.classes.blocks_cause.Given as goal

abbrev pub invariant-loop-at : goal.invariant-loop-at
invariant-loop-at l = (place : ℕ) → place < l.at → ShownAt l.blocks l.class place
