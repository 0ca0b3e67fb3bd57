-- Lanes within a list of colours, and where their walk stands; only private clauses and proofs cite this file.
use Rattle.std.specs.Prelude.{◌<◌, ℕ}
use Rattle.std.specs.List.{All}
use Rattle.colour_rows.specs.declared.equation.Pass.{Pass}
use Rattle.colour_weights.specs.declared.shadow_walker.ShadowWalker.{ShadowWalker}
use Rattle.colour_numbers.specs.declared.lane.Lane.{Lane}
use Rattle.colour_numbers.specs.declared.lane_weight.Standing.{Standing}

-- each column of the lane has a colour in a list of this length
pub record LaneIsWithin (n : ℕ) (l : Lane) : Type 0 where
  pub left : l.row.left_end < n
  pub before : All (λ (p : Pass). p.column < n) l.before.items
  pub passed : All (λ (p : Pass). p.column < n) l.passed.items

-- where a walk stands, as the definitions of weights have it
abbrev pub walker_of : Standing → ShadowWalker
walker_of at = record { colour = at.colour; region = at.region; sum = at.sum }
