use Rattle.std.proofs.Common.{◌≡◌, ◌+◌, ◌*◌, ◌/◌, ◌%◌, map, length}
use Rattle.std.specs.List.{range_with_len}
use Rattle.quandle_core.proofs.tables.linear_entries.Given as goal

abbrev pub invariant-loop-place : goal.invariant-loop-place
invariant-loop-place l =
    (l.entries.items ≡ map (λ k. (l.a * (k / l.n) + l.b * (k % l.n)) % l.n) (range_with_len 0 l.place)) × (length l.entries.items ≡ l.place) × (l.size ≡ l.n)
