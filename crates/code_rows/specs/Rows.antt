-- The rows of a planar diagram code: the edges of each crossing under any names, without signs.
use Rattle.std.specs.Prelude.{◌≡◌, ℕ, ◌+◌, ◌*◌, ◌/◌, ◌==◌, Bool, List, [], ◌∷◌, map, length, count_by, nat_lt, slice_index}
use Rattle.std.specs.List.{flat_map, position_or_len}
use Rattle.crossing_codes.specs.declared.crossing.Code.{Code}
use Rattle.crossing_codes.specs.declared.crossing.Crossing.{Crossing}
use Rattle.code_rows.specs.declared.row.CodeRow.{CodeRow}

-- the names at the four ends of edges of a row, and at all ends
abbrev pub names_of : CodeRow → List ℕ
names_of r = r.first ∷ r.second ∷ r.third ∷ r.fourth ∷ []

abbrev pub all_names : List CodeRow → List ℕ
all_names rows = flat_map names_of rows

-- edges are numbered from 1 in the order of their names, each of which stands at two ends
abbrev pub edge_number : List ℕ → ℕ → ℕ
edge_number all name = count_by (λ m. nat_lt m name) all / 2 + 1

-- the name of the edge with a number
abbrev pub name_of : List ℕ → ℕ → ℕ
name_of all edge = slice_index all (position_or_len (λ m. edge_number all m == edge) all)

abbrev pub numbered_row : List ℕ → CodeRow → CodeRow
numbered_row all r =
    record {
      first = edge_number all r.first;
      second = edge_number all r.second;
      third = edge_number all r.third;
      fourth = edge_number all r.fourth;
    }

-- the edges of a crossing
abbrev pub row_of_crossing : Crossing → CodeRow
row_of_crossing x = record { first = x.first; second = x.second; third = x.third; fourth = x.fourth }

-- the crossing with these edges and a sign
abbrev pub with_sign : CodeRow → Bool → Crossing
with_sign r positive = record { first = r.first; second = r.second; third = r.third; fourth = r.fourth; positive = positive }

-- the code has these rows, with their edges numbered, and so many loops
pub record IsCodeOf (given : List CodeRow) (free : ℕ) (c : Code) : Type 0 where
  pub rows : map row_of_crossing c.crossings ≡ map (numbered_row (all_names given)) given
  pub edges : c.edges ≡ 2 * length given
  pub loops : c.loops ≡ free
