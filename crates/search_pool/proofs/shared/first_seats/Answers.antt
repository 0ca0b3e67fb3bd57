use Rattle.std.proofs.Common.{rules, ◌≡◌, ◌∙◌, ap, arith}
use Rattle.search_pool.specs.Seats.{fresh_seats}
use Rattle.search_pool.proofs.SeatLists.{as_many_seats, fresh_more}
use Rattle.search_pool.proofs.shared.first_seats.Goals as goal

pub push_reserved-requires : goal.push_reserved-requires
push_reserved-requires g l =
    let many = as_many_seats l.loop-worker.worker l.loop-worker.seats.items (search rules) in
    (search (rules, many))

pub loop-worker-preserved : goal.loop-worker-preserved
loop-worker-preserved g l =
    let more = fresh_more l.loop-worker.worker l.loop-worker.seats.items (search rules) in
    (search (rules, more))

pub returns-clause-seats : goal.returns-clause-seats
returns-clause-seats g c =
    let all : c.loop-worker.worker ≡ c.args.workers = omega (arith, c.loop-worker.invariant.0) in
    c.loop-worker.invariant.5 ∙ ap fresh_seats all
