use Rattle.std.proofs.Common.{◌≡◌, ◌++◌, ℕ, map, set}
use Rattle.std.specs.List.{range_with_len}
use Rattle.colour_list.specs.Level.{with_right}
use Rattle.colour_list.proofs.level.push_each.Given as goal

abbrev pub invariant-loop-colour : goal.invariant-loop-colour
invariant-loop-colour l =
    l.next.items ≡ l.fn.next.items ++ map (λ (a : ℕ). with_right l.quandle l.row (set l.colours l.row.left_end a)) (range_with_len 0 l.colour)
