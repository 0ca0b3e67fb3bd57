use Rattle.std.proofs.Common.{◌≡◌, ◌≤◌, ◌++◌, length, reverse, vec_len}
use Rattle.grid_moves.proofs.undoing.push_undone.Given as goal

abbrev pub invariant-loop-step : goal.invariant-loop-step
invariant-loop-step l =
    (l.list.items ++ reverse l.inverses.items ≡ l.fn.list.items ++ reverse l.initial.inverses.items) × (length l.fn.list.items ≤ length l.list.items)

abbrev pub decreases-loop-step : goal.decreases-loop-step
decreases-loop-step l = vec_len l.inverses
