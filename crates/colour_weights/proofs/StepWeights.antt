-- Every step keeps the weight by rows.
use Rattle.std.proofs.Common.{◌<◌, ◌≡◌, ℕ, List}
use Rattle.grid_core.specs.Diagram.{Diagram}
use Rattle.grid_moves.specs.declared.step.Move.{Move}
use Rattle.grid_moves.specs.declared.step.Move.TheVariants.{ShiftColumns, ShiftRows, ExchangeColumns, ExchangeRows, SlideColumns}
use Rattle.grid_moves.specs.declared.step.Move.TheVariants.{SlideRows, Stabilise, Destabilise}
use Rattle.grid_moves.specs.Step.{Step}
use Rattle.colour_rows.specs.Colouring.{IsColouring}
use Rattle.colour_laws.specs.Carried.{carried}
use Rattle.cocycle_core.specs.ShadowCocycle.{ShadowCochain, IsShadowCocycle}
use Rattle.colour_weights.specs.ShadowWalkSum.{shadow_weight_by_rows}
use Rattle.colour_weights.proofs.ShiftWeights.{shift_of_columns, shift_of_rows}
use Rattle.colour_weights.proofs.ExchangeWeights.{exchange_of_columns, exchange_of_rows}
use Rattle.colour_weights.proofs.SlideWeights.{slide_of_columns, slide_of_rows}
use Rattle.colour_weights.proofs.BlockWeights.{stabilisation, destabilisation}

pub step_keeps_rows : (w : ShadowCochain) → IsShadowCocycle w → (z : ℕ) → z < w.quandle.order → (d e : Diagram) (move : Move) → Step d move e → (f : List ℕ)
    → IsColouring w.quandle d f
    → shadow_weight_by_rows w e (carried w.quandle d move f) z ≡ shadow_weight_by_rows w d f z
step_keeps_rows w cocycle z lz d e (ShiftColumns k) step f colouring = shift_of_columns w cocycle z lz d e k step f colouring
step_keeps_rows w cocycle z lz d e (ShiftRows k) step f colouring = shift_of_rows w cocycle z lz d e k step f colouring
step_keeps_rows w cocycle z lz d e (ExchangeColumns c) step f colouring = exchange_of_columns w cocycle z lz d e c step f colouring
step_keeps_rows w cocycle z lz d e (ExchangeRows r) step f colouring = exchange_of_rows w cocycle z lz d e r step f colouring
step_keeps_rows w cocycle z lz d e (SlideColumns c) step f colouring = slide_of_columns w cocycle z lz d e c step f colouring
step_keeps_rows w cocycle z lz d e (SlideRows r) step f colouring = slide_of_rows w cocycle z lz d e r step f colouring
step_keeps_rows w cocycle z lz d e (Stabilise c kind corner) step f colouring = stabilisation w cocycle z lz d e c kind corner step f colouring
step_keeps_rows w cocycle z lz d e (Destabilise c r) step f colouring = destabilisation w cocycle z lz d e c r step f colouring
