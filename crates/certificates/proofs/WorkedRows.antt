-- Worked evidence, printed and read by hand, by computing.
use Rattle.std.proofs.Common.{◌≡◌, ℕ, pos, negsuc, List, [], ◌∷◌, ◌++◌, codes, Ok, refl}
use Rattle.std.specs.Fmt.{digits}
use Rattle.grid_core.specs.Diagram.{Diagram as Marks}
use Rattle.text_items.specs.Reading.{next_line, text_end, next_token, line_end, word, number, last_number, last_count, each_token}
use Rattle.text_items.specs.Numbers.{numbers_behind}
use Rattle.text_items.specs.Grids.{x_at, o_at, grid_item}
use Rattle.text_items.specs.Quandles.{quandles, quandle_list, built_in}
use Rattle.verdict_text.specs.Diagrams.{diagram_item}
use Rattle.verdict_core.specs.declared.diagrams.Diagram.TheVariants.{Grid}
use Rattle.verdict_text.specs.Problems.{problem_item}
use Rattle.evidence_core.specs.declared.evidence.Linked.{Linked}
use Rattle.evidence_core.specs.declared.evidence.Evidence.TheVariants.{Linking}
use Rattle.number_text.specs.NumberLines.{components_at, linking_numbers_at, linked_item}
use Rattle.number_text.specs.EvidenceItems.{linking_evidence, evidence_at, head_at, evidence_item}
use Rattle.number_text.specs.declared.said.Said.TheVariants as said
use Rattle.number_text.specs.Said.{evidence_in, said_of}
use Rattle.certificates.specs.Printed.{third_text}

-- two links, of two components and of one
abbrev two : Linked
two = record { components = 2; numbers = negsuc 0 ∷ pos 1 ∷ [] }

abbrev one : Linked
one = record { components = 1; numbers = [] }

abbrev links : List ℕ
links = codes "certificate 3\ndifferent linking\ncomponents 2\nnumbers -1 1\ncomponents 1\nnumbers\n"

printed : third_text (Linking two one) ≡ links
unfolding digits
printed = refl

abbrev unknot : Marks
unknot = record { x = 0 ∷ 1 ∷ []; o = 1 ∷ 0 ∷ [] }

read : said_of (codes "x 0 1\no 1 0\nx 0 1\no 1 0\n" ++ links)
    ≡ Ok (record { first = Grid unknot; second = Grid unknot; quandles = built_in }, said.Evidence (Linking two one))
unfolding evidence_in problem_item diagram_item grid_item x_at o_at quandle_list quandles evidence_item head_at evidence_at linking_evidence linked_item
    components_at linking_numbers_at numbers_behind next_line text_end next_token line_end word number last_number last_count each_token
read = refl
