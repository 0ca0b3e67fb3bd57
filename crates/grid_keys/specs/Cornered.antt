-- The translates with an X in the lower left cell; only private clauses and proofs cite this file.
use Rattle.std.specs.Prelude.{◌≡◌, ◌<◌, ℕ, slice_index}
use Rattle.std.specs.declared.cmp.Ordering.TheVariants.{Less}
use Rattle.grid_core.specs.Diagram.{Diagram}
use Rattle.grid_keys.specs.Translation.{translate}
use Rattle.grid_keys.specs.Order.{compare, IsAtMost}

-- the translate that has the X of column a in its lower left cell
abbrev pub cornered : Diagram → ℕ → Diagram
cornered d a = translate d a (slice_index d.x a)

-- of the columns below n, a is the first that gives the least of these translates
pub record IsFirstLeast (d : Diagram) (n a : ℕ) : Type 0 where
  pub inside : a < n
  pub least : (b : ℕ) → b < n → IsAtMost (cornered d a) (cornered d b)
  pub first : (b : ℕ) → b < a → compare (cornered d a) (cornered d b) ≡ Less
