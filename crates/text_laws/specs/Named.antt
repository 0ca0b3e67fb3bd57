-- The edges that a crossing names.
use Rattle.std.specs.Prelude.{◌≤◌, ℕ}
use Rattle.crossing_codes.specs.declared.crossing.Crossing.{Crossing}

-- a number from 1 to that of the edges
abbrev pub IsEdge : ℕ → ℕ → Type 0
IsEdge edges edge = (1 ≤ edge) × (edge ≤ edges)

-- all four
pub record NamesOnly (edges : ℕ) (x : Crossing) : Type 0 where
  pub first : IsEdge edges x.first
  pub second : IsEdge edges x.second
  pub third : IsEdge edges x.third
  pub fourth : IsEdge edges x.fourth
