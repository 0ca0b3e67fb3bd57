use Rattle.std.proofs.Common.{◌≡◌}
use Rattle.search_pool.proofs.shared.SharedBook.claim_others.Given as goal

abbrev pub invariant-loop-place : goal.invariant-loop-place
invariant-loop-place g l = (l.seat.worker ≡ l.fn.seat.worker) × (l.seat.made ≡ l.fn.seat.made)
