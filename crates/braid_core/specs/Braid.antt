-- Braids as words in the generators of the braid group (Artin 1947). The strands run upward, at positions 1 to m from the left.
use Rattle.std.specs.Prelude.{◌<◌, ◌≤◌, ◌+◌, ◌*◌, ℕ, ℤ, List, length, unsigned_abs}
use Rattle.std.specs.List.{All}
use Rattle.grid_core.specs.declared.grid.TheConstants.{MAX_SIZE}
use Rattle.braid_core.specs.declared.braid.TheConstants.{MAX_STRANDS}

-- the number of strands, and the letters from the lowest crossing to the highest
pub record Word : Type 0 where
  pub strands : ℕ
  pub letters : List ℤ

-- a letter +k or -k of m strands: a crossing of the strands at positions k and k+1
pub record IsLetter (m : ℕ) (a : ℤ) : Type 0 where
  pub least : 1 ≤ unsigned_abs a
  pub most : unsigned_abs a < m

-- a braid word with room for its closure: letters of its strands, and few enough of both that the closure is a grid
pub record IsBraid (b : Word) : Type 0 where
  pub least : 1 ≤ b.strands
  pub most : b.strands ≤ MAX_STRANDS
  pub crossings : All (IsLetter b.strands) b.letters
  pub room : length b.letters + 2 * b.strands ≤ MAX_SIZE
