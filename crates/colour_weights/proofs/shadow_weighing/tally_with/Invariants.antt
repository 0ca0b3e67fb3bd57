use Rattle.std.proofs.Common.{◌≡◌, ◌+◌, ◌==◌, ℕ, map, take}
use Rattle.std.specs.Prelude.{count_by}
use Rattle.std.specs.List.{range_with_len}
use Rattle.arrayvec.specs.ArrayVec.{ArrayVec}
use Rattle.colour_weights.specs.ShadowWeight.{shadow_weight}
use Rattle.colour_weights.proofs.Tallies.{counted_before}
use Rattle.colour_weights.proofs.shadow_weighing.tally_with.Given as goal

abbrev pub invariant-loop-colours : goal.invariant-loop-colours
invariant-loop-colours l =
    l.counts ≡ map (λ v. counted_before l.cocycle l.grid l.list l.outer v
    + count_by (λ (c : ArrayVec ℕ). shadow_weight l.cocycle l.grid c.items l.outer == v) (take l.colours-index l.list)) (range_with_len 0 l.cocycle.modulus)
