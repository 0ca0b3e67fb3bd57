-- Worked examples, by computing: rows of a trefoil and of a kink under other names, and rows with faults.
use Rattle.std.proofs.Common.{◌≡◌, ◌+◌, ◌∷◌, [], ℕ, Bool, true, false, List, Some, None, map, refl}
use Rattle.std.specs.List.{range_with_len}
use Rattle.code_rows.specs.JoinedEdges.{is_joined}
use Rattle.code_rows.specs.declared.row.CodeRow.{CodeRow}
use Rattle.code_rows.specs.declared.rows_fault.RowsFault.TheVariants.{Empty, Edge}
use Rattle.code_rows.specs.Rows.{all_names, name_of, numbered_row}
use Rattle.code_rows.specs.RowsFault.{unpaired}
use Rattle.code_rows.specs.RowSigns.{with_signs}

abbrev pub R : ℕ → ℕ → ℕ → ℕ → CodeRow
R i j k l = record { first = i; second = j; third = k; fourth = l }

-- names from 0, as some programs print them
abbrev pub from_zero : List CodeRow
from_zero = R 0 4 1 3 ∷ R 2 0 3 5 ∷ R 4 2 5 1 ∷ []

numbered_from_one : map (numbered_row (all_names from_zero)) from_zero ≡ R 1 5 2 4 ∷ R 3 1 4 6 ∷ R 5 3 6 2 ∷ []
numbered_from_one = refl

abbrev pub kink : List CodeRow
kink = R 70 70 9 9 ∷ []

in_order_of_names : map (numbered_row (all_names kink)) kink ≡ R 2 2 1 1 ∷ []
in_order_of_names = refl

names_again : name_of (all_names kink) 1 ∷ name_of (all_names kink) 2 ∷ [] ≡ 9 ∷ 70 ∷ []
names_again = refl

all_paired : unpaired from_zero 0 ∷ unpaired kink 3 ∷ unpaired [] 1 ∷ [] ≡ None ∷ None ∷ None ∷ []
all_paired = refl

nothing : unpaired [] 0 ≡ Some Empty
nothing = refl

-- of 7 at three ends and 8 at one, and of 4 at one end and 5 at three, the least name
at_three_ends : unpaired (R 8 7 7 7 ∷ []) 0 ∷ unpaired (R 5 4 5 5 ∷ []) 1 ∷ [] ≡ Some (Edge 7) ∷ Some (Edge 4) ∷ []
at_three_ends = refl

-- the least, wherever it stands
at_one_end : unpaired (R 3 9 3 8 ∷ R 9 2 8 1 ∷ []) 0 ≡ Some (Edge 1)
at_one_end = refl

-- which of the edges lead from one passage to one, when the crossings of rows have these signs
abbrev joined : List CodeRow → List Bool → ℕ → List Bool
joined rows signs edges = map (λ e. is_joined (with_signs (map (numbered_row (all_names rows)) rows) signs) (e + 1)) (range_with_len 0 edges)

-- all edges of the trefoil, with positive crossings
directed : joined from_zero (true ∷ true ∷ true ∷ []) 6 ≡ true ∷ true ∷ true ∷ true ∷ true ∷ true ∷ []
directed = refl

-- with one negative crossing strands run against each other, before that crossing and behind it
against : joined from_zero (true ∷ true ∷ false ∷ []) 6 ≡ true ∷ false ∷ false ∷ true ∷ true ∷ true ∷ []
against = refl

-- whatever the signs, edge 3 leads to both strands below and edge 5 comes from both
abbrev clashing : List CodeRow
clashing = R 3 8 5 9 ∷ R 3 9 5 8 ∷ []

same_signs : joined clashing (true ∷ true ∷ []) 4 ∷ joined clashing (false ∷ false ∷ []) 4 ∷ []
    ≡ (false ∷ false ∷ true ∷ true ∷ []) ∷ (false ∷ false ∷ true ∷ true ∷ []) ∷ []
same_signs = refl

other_signs : joined clashing (true ∷ false ∷ []) 4 ∷ joined clashing (false ∷ true ∷ []) 4 ∷ []
    ≡ (false ∷ false ∷ false ∷ false ∷ []) ∷ (false ∷ false ∷ false ∷ false ∷ []) ∷ []
other_signs = refl
