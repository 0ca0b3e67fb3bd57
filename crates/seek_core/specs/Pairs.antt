-- The two diagrams of a search.
use Rattle.grid_core.specs.Diagram.{Diagram}
use Rattle.number_search.specs.declared.seed_pair.SeedPair.{SeedPair}

-- two diagrams, and seeds of both
pub record SeededPair : Type 0 where
  pub first : Diagram
  pub second : Diagram
  pub seeds : SeedPair
