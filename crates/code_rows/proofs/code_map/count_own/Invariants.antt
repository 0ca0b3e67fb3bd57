use Rattle.std.proofs.Common.{◌≡◌, ◌≤◌, ◌==◌, get_or}
use Rattle.std.specs.Prelude.{count_by}
use Rattle.std.specs.List.{range_with_len}
use Rattle.code_rows.proofs.code_map.count_own.Given as goal

abbrev pub invariant-loop-k : goal.invariant-loop-k
invariant-loop-k l = (l.count ≡ count_by (λ k. get_or l.numbers k 0 == k) (range_with_len 0 l.k)) × (l.count ≤ l.k)
