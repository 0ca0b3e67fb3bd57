use Rattle.std.proofs.Common.{◌≡◌, ◌/◌, ◌%◌, map}
use Rattle.std.specs.List.{range_with_len}
use Rattle.quandle_core.specs.Quandle.{back}
use Rattle.quandle_core.proofs.large.back_columns.Given as goal

abbrev pub invariant-loop-place : goal.invariant-loop-place
invariant-loop-place l =
    (l.cells.items ≡ map (λ k. back (record { order = l.order; entries = l.table }) (k % l.order) (k / l.order)) (range_with_len 0 l.place))
    × (l.size ≡ l.order)
