use Rattle.std.proofs.Common.{◌≡◌, ◌<◌, ℕ, false}
use Rattle.code_rows.specs.CodeMap.{is_other_end}
use Rattle.code_rows.proofs.code_map.twin.Given as goal

abbrev pub invariant-loop-other : goal.invariant-loop-other
invariant-loop-other l = (j : ℕ) → j < l.other → is_other_end l.crossings l.dart j ≡ false
