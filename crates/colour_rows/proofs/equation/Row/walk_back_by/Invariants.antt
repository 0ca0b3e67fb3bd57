use Rattle.std.proofs.Common.{◌≡◌, ◌<◌, ℕ, fold, take, get_or, reverse}
use Rattle.colour_rows.specs.declared.equation.Pass.{Pass}
use Rattle.colour_rows.specs.Walk.{passed_leftward}
use Rattle.colour_rows.proofs.equation.Row.walk_back_by.Given as goal

abbrev pub invariant-loop-done : goal.invariant-loop-done
invariant-loop-done l =
    (l.passed ≡ l.self.passes) × (l.colour ≡ fold (λ (x : ℕ) (p : Pass). passed_leftward l.quandle p.up x (get_or l.colours p.column 0))
    (get_or l.colours l.self.right_end 0) (take l.done (reverse l.self.passes))) × (l.colour < l.quandle.order)
