-- When evidence by numbers holds.
use Rattle.std.specs.Prelude.{◌≡◌, ◌≢◌, ◌≤◌, ◌^◌, ℕ, List, length}
use Rattle.grid_core.specs.Diagram.{Diagram}
use Rattle.quandle_core.specs.Quandle.{Table}
use Rattle.colour_seeds.specs.Settled.{Determine}
use Rattle.colour_seeds.specs.declared.counting.TheConstants.{MAX_CANDIDATES}
use Rattle.colour_numbers.specs.Numbers.{numbers, coloured_by, choices_of}
use Rattle.evidence_core.specs.declared.blocks.Block.{Block}
use Rattle.evidence_core.specs.declared.evidence.Counted.{Counted}
use Rattle.evidence_core.specs.declared.evidence.Evidence.{Evidence}
use Rattle.evidence_core.specs.declared.evidence.Evidence.TheVariants.{Numbers, Linking}
use Rattle.evidence_core.specs.Links.{LinkingDiffers}

-- the quandle that gives the colours
abbrev pub table_by_block : Block → Table
table_by_block b = coloured_by b.listed.table b.cocycle

-- how many colours are chosen by so many seeds
abbrev pub choices_by : Block → ℕ → ℕ
choices_by b seeds = choices_of b.cocycle seeds

-- the diagram's own numbers by the block
abbrev pub numbers_by : Block → Diagram → List ℕ
numbers_by b d = numbers b.listed.table b.cocycle d

-- the seeds settle the diagram and have few choices of colours, and the numbers are the diagram's own
pub record AreNumbersOf (b : Block) (d : Diagram) (c : Counted) : Type 0 where
  pub settled : Determine c.seeds.items d
  pub few : (table_by_block b).order ^ choices_by b (length c.seeds.items) ≤ MAX_CANDIDATES
  pub own : c.numbers ≡ numbers_by b d

-- the numbers of colourings are the diagrams' own, and differ
pub record NumbersDiffer (b : Block) (d e : Diagram) (one two : Counted) : Type 0 where
  pub first : AreNumbersOf b d one
  pub second : AreNumbersOf b e two
  pub differ : one.numbers ≢ two.numbers

-- the evidence holds
abbrev pub EvidenceHolds : Diagram → Diagram → Evidence → Type 0
EvidenceHolds d e (Numbers b one two) = NumbersDiffer b d e one two
EvidenceHolds d e (Linking one two) = LinkingDiffers d e one two
