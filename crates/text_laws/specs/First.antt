-- The first of the faults that there are.
use Rattle.std.specs.Prelude.{◌≡◌, ◌<◌, ℕ}

-- a fault that there is, of the first law that fails, at the least number at which it does: the rank is the place of a
-- fault's law among the laws, and the number the one that the fault names
pub record IsFirst {F : Type 0} (IsFault : F → Type 0) (rank number : F → ℕ) (fault : F) : Type 0 where
  pub fails : IsFault fault
  pub earlier : (other : F) → rank other < rank fault → IsFault other → ⊥
  pub lower : (other : F) → rank other ≡ rank fault → number other < number fault → IsFault other → ⊥
