use Rattle.std.proofs.Common.{◌≡◌, ◌<◌, ℕ, true, false, get_or}
use Rattle.quandle_core.specs.Quandle.{over, back}
use Rattle.colour_seeds.proofs.connected.next_from.Given as goal

abbrev pub invariant-loop-by : goal.invariant-loop-by
invariant-loop-by l = (y : ℕ) → y < l.by
    → (get_or l.reached (over l.quandle l.colour y) false ≡ true) × (get_or l.reached (back l.quandle l.colour y) false ≡ true)
