-- The text of the numbers of a diagram by blocks.
use Rattle.std.specs.Prelude.{◌≡◌, ℕ, List, [], ◌∷◌, ◌++◌, map, codes, if◌then◌else◌}
use Rattle.std.specs.Fmt.{decimal}
use Rattle.std.specs.List.{flat_map}
use Rattle.grid_core.specs.Diagram.{Diagram}
use Rattle.text_lines.specs.Spelled.{line_text, lines_text}
use Rattle.colour_seeds.specs.declared.progress.Step.{Step}
use Rattle.colour_seeds.specs.Plan.{IsPlan, seeds_in}
use Rattle.knot_text.specs.Printed.{quandle_lines}
use Rattle.evidence_core.specs.declared.blocks.Block.{Block}
use Rattle.colour_numbers.specs.Numbers.{numbers, fits_by}

abbrev pub numbers_line : List ℕ → List ℕ
numbers_line list = line_text (codes "numbers" ∷ map decimal list)

-- how many seeds a plan has
abbrev pub wide_line : List Step → List ℕ
wide_line plan = line_text (codes "wide" ∷ decimal (seeds_in plan) ∷ [])

-- the numbers by a block, or how many seeds the plan has, where they have too many choices of colours
abbrev pub counted_line : Diagram → List Step → Block → List ℕ
counted_line d plan b =
    if fits_by b.listed.table b.cocycle plan then numbers_line (numbers b.listed.table b.cocycle d) else wide_line plan

-- a quandle as in a text, and the numbers by its block
abbrev pub block_text : Diagram → List Step → Block → List ℕ
block_text d plan b = lines_text (quandle_lines (codes "quandle") b.listed) ++ counted_line d plan b

-- for each block its quandle and its numbers, by a plan of the diagram
abbrev pub text_by : Diagram → List Step → List Block → List ℕ
text_by d plan blocks = flat_map (block_text d plan) blocks

-- the text by some plan of the diagram
pub record IsNumbersText (d : Diagram) (blocks : List Block) (text : List ℕ) : Type 0 where
  pub plan : List Step
  pub is_plan : IsPlan d plan
  pub is : text ≡ text_by d plan blocks
