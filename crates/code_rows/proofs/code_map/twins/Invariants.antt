use Rattle.std.proofs.Common.{◌≡◌, ◌<◌, length, map}
use Rattle.std.specs.List.{All, range_with_len}
use Rattle.code_rows.specs.CodeMap.{darts, twin}
use Rattle.code_rows.proofs.code_map.twins.Given as goal

abbrev pub invariant-loop-dart : goal.invariant-loop-dart
invariant-loop-dart l = record {
  all : l.ends.items ≡ map (twin l.crossings) (range_with_len 0 l.dart);
  long : length l.ends.items ≡ l.dart;
  inside : All (λ e. e < darts l.crossings) l.ends.items;
}
