use Rattle.std.proofs.Common.{◌≡◌, length}
use Rattle.std.specs.List.{range_with_len}
use Rattle.code_rows.proofs.code_map.own_places.Given as goal

abbrev pub invariant-loop-k : goal.invariant-loop-k
invariant-loop-k l = (l.numbers.items ≡ range_with_len 0 l.k) × (length l.numbers.items ≡ l.k)
