-- The rounds in which the workers of a search go on: each round has a bound on all the steps that a worker has made at its end.
use Rattle.std.specs.Prelude.{◌+◌, ◌/◌, ℕ, min, max}
use Rattle.meeting_walks.specs.declared.crew.TheConstants.{SHORT_ROUND, LONG_ROUND}

-- the steps of a round behind one with this bound: a quarter of it, but not fewer than a short round has, nor more than a long one
abbrev pub round_after : ℕ → ℕ
round_after limit = max SHORT_ROUND (min (limit / 4) LONG_ROUND)

-- the next bound, where the search is over after so many steps at most
abbrev pub limit_after : ℕ → ℕ → ℕ
limit_after limit most = min (limit + round_after limit) most
