-- Evidence that is found by numbers: linking numbers first, and then the numbers of colourings by blocks.
use Rattle.std.specs.Prelude.{◌&&◌, not, ℕ, Bool, List, nat_eq, Option, Some, None, if◌then◌else◌}
use Rattle.std.specs.List.{find}
use Rattle.std.specs.Option.{option_map, option_or}
use Rattle.std.specs.Cmp.Lexicographic.{pointwise}
use Rattle.grid_core.specs.Diagram.{Diagram}
use Rattle.colour_seeds.specs.declared.progress.Step.{Step}
use Rattle.colour_seeds.specs.Plan.{IsPlan, seed_columns}
use Rattle.colour_numbers.specs.Numbers.{fits_by}
use Rattle.evidence_core.specs.declared.blocks.Block.{Block}
use Rattle.evidence_core.specs.declared.evidence.Counted.{Counted}
use Rattle.evidence_core.specs.declared.evidence.Evidence.{Evidence}
use Rattle.evidence_core.specs.declared.evidence.Evidence.TheVariants.{Numbers, Linking}
use Rattle.number_check.specs.EvidenceHolds.{numbers_by}
use Rattle.evidence_core.specs.Links.{linked_of}
use Rattle.evidence_core.specs.Links.{are_same_links}
use Rattle.number_search.specs.declared.seed_pair.SeedPair.{SeedPair}

-- ---- linking numbers

-- the numbers of components and the linking numbers of both links, where these differ
abbrev pub told_by_linking : Diagram → Diagram → Option Evidence
told_by_linking d e = if are_same_links (linked_of d) (linked_of e) then None else Some (Linking (linked_of d) (linked_of e))

-- ---- the numbers of colourings

-- a plan of each diagram
pub record ArePlansOf (d e : Diagram) (s : SeedPair) : Type 0 where
  pub first : IsPlan d s.first
  pub second : IsPlan e s.second

-- a block fits both plans
abbrev pub fits_both : SeedPair → Block → Bool
fits_both s b = fits_by b.listed.table b.cocycle s.first && fits_by b.listed.table b.cocycle s.second

-- the diagrams have the same numbers of colourings by a block
abbrev pub agree : Diagram → Diagram → Block → Bool
agree d e b = pointwise nat_eq (numbers_by b d) (numbers_by b e)

-- a block tells two diagrams apart: it fits their plans, and their numbers by it differ
abbrev pub tells : Diagram → Diagram → SeedPair → Block → Bool
tells d e s b = fits_both s b && not (agree d e b)

-- the first of the blocks that does
abbrev pub first_telling : Diagram → Diagram → SeedPair → List Block → Option Block
first_telling d e s blocks = find (tells d e s) blocks

-- numbers, with the seeds of the plan by which they were counted
abbrev pub counted_by_plan : List Step → List ℕ → Counted
counted_by_plan plan numbers = record { seeds = record { items = seed_columns plan }; numbers = numbers }

-- the numbers of both diagrams by a block
abbrev pub evidence_by : Diagram → Diagram → SeedPair → Block → Evidence
evidence_by d e s b = Numbers b (counted_by_plan s.first (numbers_by b d)) (counted_by_plan s.second (numbers_by b e))

-- the numbers of both diagrams by the first block that tells them apart
abbrev pub told_by_blocks : Diagram → Diagram → SeedPair → List Block → Option Evidence
told_by_blocks d e s blocks = option_map (evidence_by d e s) (first_telling d e s blocks)

-- ---- both

abbrev pub told_apart : Diagram → Diagram → SeedPair → List Block → Option Evidence
told_apart d e s blocks = option_or (told_by_linking d e) (told_by_blocks d e s blocks)
