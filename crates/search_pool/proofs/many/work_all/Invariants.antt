use Rattle.std.proofs.Common.{◌≡◌, true, take}
use Rattle.std.specs.List.{All}
use Rattle.search_pool.specs.Seats.{SeatState}
use Rattle.search_pool.proofs.many.work_all.Given as goal

-- the workers of the seats so far have seen the end
abbrev pub invariant-loop-seat : goal.invariant-loop-seat
invariant-loop-seat g l = All (λ (s : SeatState). s.saw_end ≡ true) (take l.seat-index l.seats)
