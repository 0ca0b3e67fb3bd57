-- How counts of faults go on, for callers.
use Rattle.std.proofs.Common.{◌<◌, ◌≤◌, ℕ, inl, inr, arith}
use Rattle.knot_ports.specs.Faults.{greatest_count, one_more, Rose}

-- a rise is still one where the count went on before it
pub Rose-before : (first before after : ℕ) → first ≤ before → Rose before after → Rose first after
Rose-before first before after le rose = elim rose [ inl up ↦ inl (omega arith) | inr end ↦ inr end ]

-- a rise is still one where the count goes on after it
pub Rose-after : (before after last : ℕ) → before ≤ after → Rose before after → after ≤ last → Rose before last
Rose-after before after last rises rose le = grind arith

-- a count that stands below its last value didn't rise
pub Rose-still : (count : ℕ) → count < greatest_count → Rose count count → ⊥
Rose-still count below rose = grind arith

-- one more is a rise
pub Rose-one_more : (count : ℕ) → count ≤ greatest_count → Rose count (one_more count)
Rose-one_more count le = grind arith
