use Rattle.std.proofs.Common.{◌≡◌}
use Rattle.search_pool.proofs.shared.reserve_others.Given as goal

abbrev pub invariant-loop-seat : goal.invariant-loop-seat
invariant-loop-seat g l = l.seats ≡ l.fn.seats
