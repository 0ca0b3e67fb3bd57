-- Counts of faults. A count is a u64: it rises by one at each fault until it has its last value, at which it stands.
use Rattle.std.specs.Prelude.{◌≡◌, ◌⊎◌, ◌<◌, ◌+◌, ◌-◌, ◌^◌, ℕ, min}

-- the last value of a count
abbrev pub greatest_count : ℕ
greatest_count = 2 ^ 64 - 1

-- the count after one more
abbrev pub one_more : ℕ → ℕ
one_more count = min (count + 1) greatest_count

-- the count rose, or it stands at its last value, where it can't rise
abbrev pub Rose : ℕ → ℕ → Type 0
Rose before after = (before < after) ⊎ (after ≡ greatest_count)
