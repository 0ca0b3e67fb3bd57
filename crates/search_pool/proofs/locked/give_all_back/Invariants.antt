use Rattle.std.proofs.Common.{◌≡◌, length}
use Rattle.search_pool.specs.Seats.{all_made, how_many_saw_end}
use Rattle.search_pool.proofs.locked.give_all_back.Given as goal

abbrev pub invariant-loop-seat : goal.invariant-loop-seat
invariant-loop-seat g l =
    (l.made_share.parts ≡ length l.yielded)
    × (l.end_share.parts ≡ length l.yielded)
    × (l.made_share.amount ≡ all_made l.yielded)
    × (l.end_share.amount ≡ how_many_saw_end l.yielded)
