use Rattle.std.proofs.Common.{◌≡◌, ◌≤◌, vec_len, vec_capacity}
use Rattle.search_pool.proofs.hints.blank_words.Given as goal

-- a word for each round so far
abbrev pub invariant-loop : goal.invariant-loop
invariant-loop l = (vec_len l.words ≡ l.counter) × (l.count ≤ vec_capacity l.words)
