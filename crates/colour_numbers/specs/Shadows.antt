-- What weighs lists of colours by a shadow cocycle; only private clauses and proofs cite this file.
use Rattle.grid_core.specs.Diagram.{Diagram}
use Rattle.cocycle_core.specs.ShadowCocycle.{ShadowCochain}

-- a shadow cocycle, and the diagram whose columns have the colours
pub record Shadows : Type 0 where
  pub cocycle : ShadowCochain
  pub diagram : Diagram
