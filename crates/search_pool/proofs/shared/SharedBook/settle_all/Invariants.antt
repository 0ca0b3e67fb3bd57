use Rattle.std.proofs.Common.{◌≡◌, ◌≤◌}
use Rattle.search_pool.proofs.shared.SharedBook.settle_all.Given as goal

abbrev pub invariant-loop-place : goal.invariant-loop-place
invariant-loop-place g l = (l.seat.worker ≡ l.fn.seat.worker) × (l.fn.seat.made ≤ l.seat.made)
