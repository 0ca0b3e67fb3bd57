use Rattle.std.proofs.Common.{◌≡◌, map}
use Rattle.std.specs.Prelude.{slice_index}
use Rattle.std.specs.List.{range_with_len}
use Rattle.number_search.proofs.copied.values_of.Given as goal

abbrev pub invariant-loop-place : goal.invariant-loop-place
invariant-loop-place l =
    (l.table.items ≡ map (λ k. slice_index l.cocycle.entries k) (range_with_len 0 l.place)) × (l.order ≡ l.cocycle.quandle.order)
