-- Why rows are refused behind the faults of their names: their edges have no directions, or their codes no plane.
use Rattle.std.specs.Prelude.{◌≡◌, ◌≤◌, ℕ, List, Some, false}
use Rattle.crossing_codes.specs.declared.crossing.Code.{Code}
use Rattle.code_rows.specs.CodeFault.{first_code_fault}
use Rattle.code_rows.specs.CodeMap.{is_plane}
use Rattle.code_rows.specs.declared.code_fault.CodeFault.TheVariants.{Edge, Plane}
use Rattle.code_rows.specs.declared.row.CodeRow.{CodeRow}
use Rattle.code_rows.specs.Rows.{all_names, name_of, IsCodeOf}

-- no directions fit the edges of the rows: each code of them has an edge that doesn't lead from one passage to one, and the name is that of the
-- least edge up to which none fit, as it is at fault in one of the codes and no later one is the first at fault in any
pub record IsClash (given : List CodeRow) (free name : ℕ) : Type 0 where
  pub edge : ℕ
  pub is : name ≡ name_of (all_names given) edge
  pub code : Code
  pub of : IsCodeOf given free code
  pub fault : first_code_fault code ≡ Some (Edge edge)
  pub all : (c : Code) → IsCodeOf given free c → (e : ℕ) × (e ≤ edge) × (first_code_fault c ≡ Some (Edge e))

-- directions fit, since one of the codes of the rows has no edge at fault, but each of the codes is that of a map on another surface
pub record IsUnplane (given : List CodeRow) (free : ℕ) : Type 0 where
  pub code : Code
  pub of : IsCodeOf given free code
  pub fault : first_code_fault code ≡ Some Plane
  pub all : (c : Code) → IsCodeOf given free c → is_plane c.crossings ≡ false
