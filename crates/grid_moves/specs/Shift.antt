-- Cyclic shifts (Cromwell 1995, Dynnikov 2006).
use Rattle.std.specs.Prelude.{◌<◌, ◌+◌, ◌-◌, ◌%◌, ℕ}
use Rattle.grid_core.specs.Diagram.{Diagram, size}
use Rattle.grid_moves.specs.Renumbered.{Renumbered, unchanged}

-- the new number of c, of n numbers, after the cyclic shift by k: (c - k) mod n
abbrev pub shifted : ℕ → ℕ → ℕ → ℕ
shifted n k c = (c + (n - k)) % n

-- the k leftmost columns go, in order, to the right end
pub record ShiftsColumns (k : ℕ) (d e : Diagram) : Type 0 where
  pub least : 0 < k
  pub most : k < size d
  pub renumbered : Renumbered (shifted (size d) k) unchanged d e

-- the k lowest rows go, in order, to the top
pub record ShiftsRows (k : ℕ) (d e : Diagram) : Type 0 where
  pub least : 0 < k
  pub most : k < size d
  pub renumbered : Renumbered unchanged (shifted (size d) k) d e
