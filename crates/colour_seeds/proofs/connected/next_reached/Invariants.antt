use Rattle.std.proofs.Common.{◌≡◌, ◌<◌, ℕ, true, false, get_or}
use Rattle.quandle_core.specs.Quandle.{over, back}
use Rattle.colour_seeds.proofs.connected.next_reached.Given as goal

abbrev pub invariant-loop-colour : goal.invariant-loop-colour
invariant-loop-colour l = (x : ℕ) → x < l.colour → get_or l.reached x false ≡ true → (y : ℕ) → y < l.quandle.order
    → (get_or l.reached (over l.quandle x y) false ≡ true) × (get_or l.reached (back l.quandle x y) false ≡ true)
