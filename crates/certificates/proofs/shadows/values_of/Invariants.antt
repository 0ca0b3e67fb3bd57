use Rattle.std.proofs.Common.{◌≡◌, map}
use Rattle.std.specs.List.{range_with_len}
use Rattle.cocycle_core.specs.ShadowCocycle.{shadow_value}
use Rattle.certificates.proofs.shadows.values_of.Given as goal

abbrev pub invariant-loop-y : goal.invariant-loop-y
invariant-loop-y l = l.row.items ≡ map (shadow_value l.cocycle l.w l.x) (range_with_len 0 l.y)
