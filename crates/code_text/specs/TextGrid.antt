-- What is answered to the text of a code: a grid diagram of it, or why none is answered.
use Rattle.std.specs.Prelude.{◌≡◌, ◌<◌, ℕ, List, length, true, Some, None, Result, Ok, Err}
use Rattle.grid_core.specs.Diagram.{Diagram, IsGrid}
use Rattle.grid_core.specs.declared.grid.TheConstants.{MAX_SIZE}
use Rattle.crossing_codes.specs.declared.crossing.Code.{Code}
use Rattle.crossing_codes.specs.Code.{code}
use Rattle.code_rows.specs.CodeFault.{first_code_fault}
use Rattle.code_rows.specs.declared.rows_fault.RowsFault.{RowsFault}
use Rattle.code_rows.specs.Rows.{IsCodeOf}
use Rattle.code_rows.specs.RowsFault.{unpaired}
use Rattle.code_rows.specs.Refused.{IsClash, IsUnplane}
use Rattle.code_grids.specs.Renaming.{IsRenamed}
use Rattle.code_text.specs.declared.code_reading.CodeText.{CodeText}
use Rattle.code_text.specs.declared.refusal.TextRefusal.{TextRefusal}
use Rattle.code_text.specs.declared.refusal.TextRefusal.TheVariants.{Rows, Gauss, Columns, Lost}
use Rattle.code_rows.specs.declared.rows_fault.RowsFault.TheVariants as rows
use Rattle.knot_text.specs.Printed.{grid_text}
use Rattle.code_text.specs.GaussCheck.{agrees_with_gauss}
use Rattle.code_text.specs.CodeReading.{code_text_of}

-- each name stands at two ends, the code has the rows and the loops of the text, and no fault, and the Gauss lines are its own
pub record Says (t : CodeText) (c : Code) : Type 0 where
  pub paired : unpaired t.rows t.loops ≡ None
  pub rows : IsCodeOf t.rows t.loops c
  pub faultless : first_code_fault c ≡ None
  pub gauss : agrees_with_gauss c t.walks ≡ true

-- the grid's own code is one that the text says, under other names of crossings and edges
pub record IsDiagramOf (t : CodeText) (d : Diagram) : Type 0 where
  pub said : Code
  pub says : Says t said
  pub renamed : IsRenamed said (code d)

-- the text says no code
abbrev pub SaysNone : CodeText → Type 0
SaysNone t = (c : Code) → Says t c → ⊥

-- there are Gauss lines, and the rows have no fault, but no signs of the rows have these lines
pub record HasWrongLines (t : CodeText) : Type 0 where
  pub lines : 0 < length t.walks
  pub paired : unpaired t.rows t.loops ≡ None
  pub code : (c : Code) × IsCodeOf t.rows t.loops c × (first_code_fault c ≡ None)
  pub none : SaysNone t

-- a fault of the rows: of their names exactly the first; behind these `Direction` where no directions fit, and `Plane` where
-- some do and no code is plane
abbrev pub IsRowsFault : CodeText → RowsFault → Type 0
IsRowsFault t rows.Empty = unpaired t.rows t.loops ≡ Some rows.Empty
IsRowsFault t (rows.Edge name) = unpaired t.rows t.loops ≡ Some (rows.Edge name)
IsRowsFault t (rows.Direction name) = (unpaired t.rows t.loops ≡ None) × IsClash t.rows t.loops name
IsRowsFault t rows.Plane = (unpaired t.rows t.loops ≡ None) × IsUnplane t.rows t.loops

-- a refusal is right: `Rows` and `Gauss` exactly; `Columns` and `Lost` only where the text says a code
abbrev pub IsRefusal : CodeText → TextRefusal → Type 0
IsRefusal t (Rows fault) = IsRowsFault t fault
IsRefusal t Gauss = HasWrongLines t
IsRefusal t (Columns columns) = (MAX_SIZE < columns) × ((c : Code) × Says t c)
IsRefusal t Lost = (c : Code) × Says t c

-- what is answered to a text: a diagram of its code, or a refusal that is right
abbrev pub IsAnswer : CodeText → Result Diagram TextRefusal → Type 0
IsAnswer t (Ok d) = IsDiagramOf t d
IsAnswer t (Err refusal) = IsRefusal t refusal

-- the bytes are the text of a code, and the text is a grid whose own code is that one, under other names of crossings and edges
pub record IsTrueDrawing (bytes text : List ℕ) : Type 0 where
  pub input : CodeText
  pub read : code_text_of bytes ≡ Ok input
  pub grid : Diagram
  pub is_grid : IsGrid grid
  pub drawn : IsDiagramOf input grid
  pub is : text ≡ grid_text grid
