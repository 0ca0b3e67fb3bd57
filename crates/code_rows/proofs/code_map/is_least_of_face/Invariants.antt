use Rattle.std.proofs.Common.{◌≡◌, ◌<◌, ℕ, true, length}
use Rattle.std.specs.Prelude.{nat_le}
use Rattle.code_rows.specs.CodeMap.{around_face}
use Rattle.code_rows.proofs.code_map.is_least_of_face.Given as goal

abbrev pub invariant-loop-done : goal.invariant-loop-done
invariant-loop-done l = record {
  around : l.around ≡ around_face l.ends l.done l.dart;
  within : l.around < length l.ends;
  least : (j : ℕ) → j < l.done → nat_le l.dart (around_face l.ends j l.dart) ≡ true;
}
