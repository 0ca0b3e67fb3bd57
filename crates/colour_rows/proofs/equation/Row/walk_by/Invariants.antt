use Rattle.std.proofs.Common.{◌≡◌, ◌<◌, ℕ, fold, take, get_or}
use Rattle.colour_rows.specs.declared.equation.Pass.{Pass}
use Rattle.colour_rows.specs.Walk.{passed_rightward}
use Rattle.colour_rows.proofs.equation.Row.walk_by.Given as goal

abbrev pub invariant-loop-pass : goal.invariant-loop-pass
invariant-loop-pass l =
    (l.colour ≡ fold (λ (x : ℕ) (p : Pass). passed_rightward l.quandle p.up x (get_or l.colours p.column 0)) (get_or l.colours l.self.left_end 0)
    (take l.pass-index l.self.passes)) × (l.colour < l.quandle.order)
