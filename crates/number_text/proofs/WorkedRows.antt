-- Worked evidence, read by hand, by computing: its head line, and linking numbers.
use Rattle.std.proofs.Common.{◌≡◌, ℕ, pos, negsuc, List, [], ◌∷◌, ◌++◌, codes, Ok, Err, refl}
use Rattle.text_lines.specs.Lines.{text_of}
use Rattle.text_items.specs.declared.fault.TextFault.TheVariants.{Malformed}
use Rattle.text_items.specs.Reading.{next_line, next_token, line_end, word, number, last_number, last_count, each_token}
use Rattle.evidence_core.specs.declared.evidence.Linked.{Linked}
use Rattle.evidence_core.specs.declared.evidence.Evidence.TheVariants.{Linking}
use Rattle.number_text.specs.NumberLines.{components_at, linking_numbers_at, linked_item}
use Rattle.number_text.specs.EvidenceItems.{linking_evidence, evidence_at, head_at, evidence_item}

-- two links, of two components and of one
abbrev links : List ℕ
links = codes "different linking\ncomponents 2\nnumbers -1 1\ncomponents 1\nnumbers\n"

abbrev two : Linked
two = record { components = 2; numbers = negsuc 0 ∷ pos 1 ∷ [] }

abbrev one : Linked
one = record { components = 1; numbers = [] }

of_the_third_version : evidence_item (text_of (codes "certificate 3\n" ++ links)) ≡ Ok (Linking two one, record { lines = []; ending = 7 })
unfolding evidence_item head_at evidence_at linking_evidence linked_item components_at linking_numbers_at next_line next_token line_end word number last_number
    last_count each_token
of_the_third_version = refl

of_the_second : evidence_item (text_of (codes "certificate 2\n" ++ links)) ≡ Err (Malformed 1)
unfolding evidence_item head_at evidence_at linking_evidence linked_item components_at linking_numbers_at next_line next_token line_end word number last_number
    last_count each_token
of_the_second = refl
