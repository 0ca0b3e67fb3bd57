-- Every step carries colourings one to one.
use Rattle.std.proofs.Common.{◌≡◌, ℕ, List, sym, subst}
use Rattle.grid_core.specs.Diagram.{Diagram}
use Rattle.grid_moves.specs.declared.step.Move.{Move}
use Rattle.grid_moves.specs.declared.step.Move.TheVariants.{ShiftColumns, ShiftRows, ExchangeColumns, ExchangeRows, SlideColumns, SlideRows, Stabilise}
use Rattle.grid_moves.specs.declared.step.Move.TheVariants.{Destabilise}
use Rattle.grid_moves.specs.Step.{Step}
use Rattle.quandle_core.specs.Quandle.{Table, IsQuandle}
use Rattle.colour_rows.specs.Colouring.{IsColouring}
use Rattle.quandle_core.specs.Bijection.{IsBijection}
use Rattle.colour_laws.specs.Carried.{carried}
use Rattle.colour_laws.proofs.ShiftSteps.{shift_of_columns}
use Rattle.colour_laws.proofs.RowShiftSteps.{shift_of_rows}
use Rattle.colour_laws.proofs.ExchangeSteps.{exchange_of_rows}
use Rattle.colour_laws.proofs.ColumnExchangeSteps.{exchange_of_columns}
use Rattle.colour_laws.proofs.SlideSteps.{slide_of_columns, slide_of_rows}
use Rattle.colour_laws.proofs.BlockColours.{stabilisation, destabilisation}

pub step_carries : (t : Table) → IsQuandle t → (d e : Diagram) (move : Move) → Step d move e
    → IsBijection (IsColouring t d) (IsColouring t e) (carried t d move)
step_carries t q d e (ShiftColumns k) step = shift_of_columns t q d e k step
step_carries t q d e (ShiftRows k) step = shift_of_rows t q d e k step
step_carries t q d e (ExchangeColumns c) step = exchange_of_columns t q d e c step
step_carries t q d e (ExchangeRows r) step = exchange_of_rows t q d e r step
step_carries t q d e (SlideColumns c) step = slide_of_columns t q d e c step
step_carries t q d e (SlideRows r) step = slide_of_rows t q d e r step
step_carries t q d e (Stabilise c kind corner) step = stabilisation t q d e c kind corner step
step_carries t q d e (Destabilise c r) step = destabilisation t q d e c r step

-- what is carried is a colouring
pub carried_is : (t : Table) → IsQuandle t → (d : Diagram) (move : Move) (f ys : List ℕ) → IsColouring t d f → ys ≡ carried t d move f → (e : Diagram)
    → Step d move e → IsColouring t e ys
carried_is t q d move f ys colouring is e step = subst (IsColouring t e) (sym is) ((step_carries t q d e move step).into f colouring)
