use Rattle.std.proofs.Common.{rules, ◌≡◌, ◌∙◌}
use Rattle.search_pool.proofs.SeatLists.{written_over}
use Rattle.search_pool.proofs.shared.SharedBook.new.Goals as goal

pub returns : goal.returns
returns g c =
    let same = written_over c.in_ok-seats.seats.len c.reserve_others.new.seats c.in_ok-seats.seats.items (search rules) (search rules) in
    let kept : c.reserve_others.new.seats ≡ c.in_ok-seats.seats.items = search rules in
    record { seats = same ∙ kept ∙ c.in_ok-seats.ensures.seats }
