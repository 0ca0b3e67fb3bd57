-- The seats of workers, in order, and how many saw the end.
use Rattle.std.proofs.Common.{◌≡◌, ◌∙◌, ap, sym, ℕ, ◌<◌, ◌+◌, true, List, [], ◌∷◌, ◌++◌, length, All, arith, cond, take, drop, append-nil}
use Rattle.std.proofs.lemmas.List.{drop_all, take_all}
use Rattle.std.proofs.lemmas.List.Sums.{sum_by-cons}
use Rattle.std.proofs.lemmas.List.FromFn.{length-map-range_with_len, map-range_with_len_more}
use Rattle.search_pool.specs.Seats.{SeatState, fresh, fresh_seats, how_many_saw_end}

-- a seat more
pub fresh_more : (n : ℕ) (seats : List SeatState) → seats ≡ fresh_seats n → seats ++ fresh n ∷ [] ≡ fresh_seats (n + 1)
fresh_more n seats are = ap (λ (l : List SeatState). l ++ fresh n ∷ []) are ∙ sym (map-range_with_len_more fresh 0 n n (omega arith))

pub as_many_seats : (n : ℕ) (seats : List SeatState) → seats ≡ fresh_seats n → length seats ≡ n
as_many_seats n seats are = ap length are ∙ length-map-range_with_len fresh 0 n

-- where each worker saw the end and there is one, one saw it
pub one_saw_end : (seats : List SeatState) → 0 < length seats → All (λ (s : SeatState). s.saw_end ≡ true) seats → 0 < how_many_saw_end seats
one_saw_end [] some all = absurd (omega arith)
one_saw_end (s ∷ seats) some all =
    let first : s.saw_end ≡ true = all 0 s (omega arith) in
    let step : how_many_saw_end (s ∷ seats) ≡ cond s.saw_end 1 0 + how_many_saw_end seats = sum_by-cons (λ (t : SeatState). cond t.saw_end 1 0) s seats in
    rw (step, first) (omega arith)

-- a list written over in its whole length is what was written
pub written_over : {X : Type 0} (n : ℕ) (new old : List X) → length new ≡ n → length old ≡ n → take n (new ++ drop (length new) old) ≡ new
written_over n new old is was =
    let rest : drop (length new) old ≡ [] = drop_all (length new) old (omega (arith, is, was)) in
    rw (rest, append-nil new) (take_all n new (omega (arith, is)))
