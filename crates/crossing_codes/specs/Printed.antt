-- The texts of crossing codes: planar diagram codes and signed Gauss codes.
use Rattle.std.specs.Prelude.{ℕ, ◌+◌, ◌==◌, ◌&&◌, not, List, ◌++◌, map, filter, flat_map, length, codes, decimal, if◌then◌else◌}
use Rattle.std.specs.List.{position_or_len}
use Rattle.grid_core.specs.Diagram.{Diagram}
use Rattle.grid_core.specs.Crossing.{is_positive}
use Rattle.crossing_codes.specs.declared.crossing.Code.{Code}
use Rattle.crossing_codes.specs.declared.crossing.Crossing.{Crossing}
use Rattle.crossing_codes.specs.declared.passages.Passage.{Passage}
use Rattle.crossing_codes.specs.Components.{component_starts}
use Rattle.crossing_codes.specs.Passages.{Crossed, crossings, passages_from}

-- X[i,j,k,l]
abbrev pub crossing_line : Crossing → List ℕ
crossing_line x =
    codes "X[" ++ (decimal x.first ++ (codes "," ++ (decimal x.second ++ (codes "," ++ (decimal x.third ++ (codes "," ++ (decimal x.fourth ++ codes "]\n")))))))

-- the number of crossings, the crossings, and the number of loops
abbrev pub pd_text : Code → List ℕ
pd_text code =
    codes "crossings " ++ (decimal (length code.crossings) ++ (codes "\n"
    ++ (flat_map crossing_line code.crossings ++ (codes "loops " ++ (decimal code.loops ++ codes "\n")))))

-- the number of the crossing at column c and row r, from 1
abbrev pub crossing_number : Diagram → ℕ → ℕ → ℕ
crossing_number d c r = position_or_len (λ (at : Crossed). (at.column == c) && (at.row == r)) (crossings d) + 1

-- a passage: over or under, the number of the crossing, and its sign
abbrev pub passage_token : Diagram → Passage → List ℕ
passage_token d p =
    (if p.over then codes "O" else codes "U") ++ (decimal (crossing_number d p.column p.row)
    ++ (if is_positive d p.column p.row then codes "+" else codes "-"))

abbrev pub gauss_line : Diagram → List Passage → List ℕ
gauss_line d ps = codes "gauss" ++ (flat_map (λ p. codes " " ++ passage_token d p) ps ++ codes "\n")

-- a line for each component with passages, in order
abbrev pub gauss_text : Diagram → List ℕ
gauss_text d = flat_map (gauss_line d) (filter (λ ps. not (length ps == 0)) (map (passages_from d) (component_starts d)))
