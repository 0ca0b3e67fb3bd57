use Rattle.std.proofs.Common.{◌≡◌, ◌/◌, ◌%◌, map}
use Rattle.std.specs.List.{range_with_len}
use Rattle.quandle_core.specs.Quandle.{over}
use Rattle.quandle_core.proofs.large.entries_of.Given as goal

abbrev pub invariant-loop-place : goal.invariant-loop-place
invariant-loop-place l = (l.entries.items ≡ map (λ k. over l.quandle (k / l.order) (k % l.order)) (range_with_len 0 l.place)) × (l.size ≡ l.order)
