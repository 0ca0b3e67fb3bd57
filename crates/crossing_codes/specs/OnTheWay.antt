-- What becomes of a colour as one follows a strand: cited by private clauses and proofs alone.
use Rattle.std.specs.Prelude.{◌<◌, ℕ, List, [], ◌∷◌, slice_index, if◌then◌else◌}
use Rattle.grid_core.specs.Diagram.{Diagram, size}
use Rattle.grid_core.specs.Parts.{is_up, is_rightward}
use Rattle.quandle_core.specs.Quandle.{Table}
use Rattle.colour_rows.specs.Walk.{passed_rightward, passed_leftward}
use Rattle.crossing_codes.specs.declared.passages.Passage.{Passage}

-- the passage is in the diagram
abbrev pub LiesIn : Diagram → Passage → Type 0
LiesIn d p = (p.column < size d) × (p.row < size d)

-- what a strand of colour x has become behind a passage
abbrev pub passing : Table → Diagram → List ℕ → ℕ → Passage → ℕ
passing t d colours x p =
    if p.over then x
    else if is_rightward d p.row then passed_rightward t (is_up d p.column) x (slice_index colours p.column)
    else passed_leftward t (is_up d p.column) x (slice_index colours p.column)

-- the colours with which a strand of colour x comes to each passage
abbrev pub on_the_way : Table → Diagram → List ℕ → ℕ → List Passage → List ℕ
on_the_way t d colours x [] = []
on_the_way t d colours x (p ∷ ps) = x ∷ on_the_way t d colours (passing t d colours x p) ps
