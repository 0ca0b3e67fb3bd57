use Rattle.std.proofs.Common.{◌≡◌, length}
use Rattle.code_rows.specs.CodeMap.{parts_below}
use Rattle.code_rows.proofs.code_map.join_parts.Given as goal

abbrev pub invariant-loop-dart : goal.invariant-loop-dart
invariant-loop-dart l = l.numbers ≡ parts_below l.ends (length l.fn.numbers) l.dart
