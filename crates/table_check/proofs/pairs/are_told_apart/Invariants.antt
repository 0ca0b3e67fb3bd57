use Rattle.std.proofs.Common.{◌<◌, ℕ}
use Rattle.table_check.specs.TableHolds.{numbers_at, Differ}
use Rattle.table_check.proofs.pairs.are_told_apart.Given as goal

abbrev pub invariant-loop-at : goal.invariant-loop-at
invariant-loop-at l = (place : ℕ) → place < l.at → Differ (numbers_at l.one place) (numbers_at l.two place) → ⊥
