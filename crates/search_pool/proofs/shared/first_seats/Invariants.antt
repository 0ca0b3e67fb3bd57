use Rattle.std.proofs.Common.{◌≡◌, ◌+◌, ◌≤◌, vec_capacity}
use Rattle.search_pool.specs.Seats.{fresh_seats}
use Rattle.search_pool.proofs.shared.first_seats.Given as goal

abbrev pub invariant-loop-worker : goal.invariant-loop-worker
invariant-loop-worker g l =
    (l.made_share.parts + l.worker ≡ l.workers)
    × (l.end_share.parts + l.worker ≡ l.workers)
    × (l.made_share.amount ≡ 0)
    × (l.end_share.amount ≡ 0)
    × (l.workers ≤ vec_capacity l.seats)
    × (l.seats.items ≡ fresh_seats l.worker)
