use Rattle.std.proofs.Common.{◌≡◌}
use Rattle.std.specs.List.{All}
use Rattle.std.proofs.Common.{take}
use Rattle.table_check.specs.declared.row_items.OpenPair.{OpenPair}
use Rattle.table_check.proofs.pairs.is_left.Given as goal

abbrev pub invariant-loop-pair : goal.invariant-loop-pair
invariant-loop-pair l = All (λ (p : OpenPair). ◌≡◌ {A = OpenPair} p (record { first = l.first; second = l.second }) → ⊥) (take l.pair-index l.left)
