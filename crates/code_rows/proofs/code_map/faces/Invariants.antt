use Rattle.std.proofs.Common.{◌≡◌, ◌≤◌}
use Rattle.std.specs.Prelude.{count_by}
use Rattle.std.specs.List.{range_with_len}
use Rattle.code_rows.specs.CodeMap.{is_least_of_face}
use Rattle.code_rows.proofs.code_map.faces.Given as goal

abbrev pub invariant-loop-dart : goal.invariant-loop-dart
invariant-loop-dart l = (l.count ≡ count_by (is_least_of_face l.ends) (range_with_len 0 l.dart)) × (l.count ≤ l.dart)
