use Rattle.std.proofs.Common.{◌≡◌, ◌<◌, ℕ, false}
use Rattle.grid_core.specs.Fault.{is_repeated}
use Rattle.text_items.proofs.grids.has_repeat.Given as goal

abbrev pub invariant-loop-c : goal.invariant-loop-c
invariant-loop-c l = (k : ℕ) → k < l.c → is_repeated l.rows k ≡ false
