-- The seats of the workers of one book.
use Rattle.std.specs.Prelude.{ℕ, Bool, false, List, map, sum_by, count_by}
use Rattle.std.specs.List.{range_with_len}

-- what contracts see of a seat: the number of its worker, the settlements that this worker made, and whether it saw the end of the book
pub record SeatState : Type 0 where
  pub worker : ℕ
  pub made : ℕ
  pub saw_end : Bool

-- the worker of this number has made nothing yet, and has not seen the end
abbrev pub fresh : ℕ → SeatState
fresh worker = record { worker = worker; made = 0; saw_end = false }

-- one seat for each of so many workers, by their numbers from 0
abbrev pub fresh_seats : ℕ → List SeatState
fresh_seats workers = map fresh (range_with_len 0 workers)

-- the settlements that the workers made, added up
abbrev pub all_made : List SeatState → ℕ
all_made seats = sum_by (λ (s : SeatState). s.made) seats

-- how many of the workers saw the end
abbrev pub how_many_saw_end : List SeatState → ℕ
how_many_saw_end seats = count_by (λ (s : SeatState). s.saw_end) seats
