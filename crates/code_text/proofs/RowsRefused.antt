-- Why rows are refused, by the fault that was answered.
use Rattle.std.proofs.Common.{◌≡◌, ℕ, Result, Err, refl, sym}
use Rattle.crossing_codes.specs.declared.crossing.Code.{Code}
use Rattle.code_rows.specs.declared.rows_fault.RowsFault.{RowsFault}
use Rattle.code_rows.specs.declared.rows_fault.RowsFault.TheVariants as rows
use Rattle.code_rows.specs.RowsFault.{unpaired, as_unpaired}
use Rattle.code_rows.specs.Refused.{IsClash, IsUnplane}
use Rattle.code_text.specs.declared.code_reading.CodeText.{CodeText}
use Rattle.code_text.specs.TextGrid.{IsRowsFault}

abbrev pub refused_with : RowsFault → Result Code RowsFault
refused_with fault = Err fault

pub rows_refused : (t : CodeText) (fault : RowsFault) → as_unpaired (refused_with fault) ≡ unpaired t.rows t.loops
    → ((name : ℕ) → refused_with fault ≡ Err (rows.Direction name) → IsClash t.rows t.loops name)
    → (refused_with fault ≡ Err rows.Plane → IsUnplane t.rows t.loops)
    → IsRowsFault t fault
rows_refused t rows.Empty unpaired_is direction plane = sym unpaired_is
rows_refused t (rows.Edge name) unpaired_is direction plane = sym unpaired_is
rows_refused t (rows.Direction name) unpaired_is direction plane = (sym unpaired_is, direction name refl)
rows_refused t rows.Plane unpaired_is direction plane = (sym unpaired_is, plane refl)
