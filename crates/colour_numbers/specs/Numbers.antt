-- How many colourings a diagram has by a quandle, and by a cocycle how many of each weight.
use Rattle.std.specs.Prelude.{ℕ, ◌+◌, ◌^◌, Bool, List, [], ◌∷◌, length, Option, Some, None, nat_le}
use Rattle.grid_core.specs.Diagram.{Diagram}
use Rattle.quandle_core.specs.Quandle.{Table}
use Rattle.cocycle_core.specs.Cocycle.{IsCocycle}
use Rattle.colour_list.specs.Listing.{colourings}
use Rattle.colour_weights.specs.Weights.{weights}
use Rattle.cocycle_core.specs.ShadowCocycle.{IsShadowCocycle}
use Rattle.colour_weights.specs.ShadowWeights.{shadow_weights}
use Rattle.colour_seeds.specs.declared.progress.Step.{Step}
use Rattle.colour_seeds.specs.declared.counting.TheConstants.{MAX_CANDIDATES}
use Rattle.colour_seeds.specs.Plan.{seeds_in}
use Rattle.evidence_core.specs.declared.blocks.LargeWeighing.{LargeWeighing}
use Rattle.evidence_core.specs.declared.blocks.LargeWeighing.TheVariants.{Strands, Regions}

-- the number of colourings; with a cocycle, for each weight the number of those that have it, and with one that looks at regions
-- the number of pairs of a colouring and a colour of the outer region that have it
abbrev pub numbers : Table → Option LargeWeighing → Diagram → List ℕ
numbers t None d = length (colourings t d) ∷ []
numbers t (Some (Strands w)) d = weights w d
numbers t (Some (Regions s)) d = shadow_weights s.cocycle d

-- the quandle that gives the colours; a cocycle has its own
abbrev pub coloured_by : Table → Option LargeWeighing → Table
coloured_by t None = t
coloured_by t (Some (Strands w)) = w.quandle
coloured_by t (Some (Regions s)) = s.cocycle.quandle

-- how many colours are chosen by so many seeds: one for each, and with regions one more, for the outer one
abbrev pub choices_of : Option LargeWeighing → ℕ → ℕ
choices_of None seeds = seeds
choices_of (Some (Strands w)) seeds = seeds
choices_of (Some (Regions s)) seeds = seeds + 1

-- there are at most MAX_CANDIDATES choices of colours
abbrev pub fits_by : Table → Option LargeWeighing → List Step → Bool
fits_by t o plan = nat_le ((coloured_by t o).order ^ choices_of o (seeds_in plan)) MAX_CANDIDATES

-- a cocycle, if there is one, has the laws of its kind
abbrev pub IsCocycleOrNone : Option LargeWeighing → Type 0
IsCocycleOrNone None = Unit {0}
IsCocycleOrNone (Some (Strands w)) = IsCocycle w
IsCocycleOrNone (Some (Regions s)) = IsShadowCocycle s.cocycle
