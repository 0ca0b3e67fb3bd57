-- Every step keeps the weight.
use Rattle.std.proofs.Common.{◌≡◌, ◌∙◌, ◌<◌, ℕ, List, sym}
use Rattle.grid_core.specs.Diagram.{Diagram, IsGrid}
use Rattle.grid_moves.specs.declared.step.Move.{Move}
use Rattle.grid_moves.specs.Step.{Step}
use Rattle.quandle_core.specs.Quandle.{Table}
use Rattle.colour_rows.specs.Colouring.{IsColouring}
use Rattle.colour_laws.specs.Carried.{carried}
use Rattle.colour_laws.proofs.Steps.{step_carries}
use Rattle.colour_laws.proofs.Walks.{HasColours}
use Rattle.cocycle_core.specs.ShadowCocycle.{ShadowCochain, IsShadowCocycle}
use Rattle.colour_weights.specs.ShadowWeight.{shadow_weight}
use Rattle.colour_weights.specs.ShadowWalkSum.{shadow_weight_by_rows}
use Rattle.colour_weights.proofs.ShadowCrossingSums.{crossings_are_rows}
use Rattle.colour_weights.proofs.StepWeights.{step_keeps_rows}

pub colours_of : (t : Table) (d : Diagram) → IsGrid d → (f : List ℕ) → IsColouring t d f → HasColours t d f
colours_of t d grid f colouring = record { rings = grid.same; size = colouring.colours_are.0; below = colouring.colours_are.1 }

pub by_rows : (w : ShadowCochain) → IsShadowCocycle w → (d : Diagram) → IsGrid d → (f : List ℕ) → IsColouring w.quandle d f → (z : ℕ) → z < w.quandle.order
    → shadow_weight w d f z ≡ shadow_weight_by_rows w d f z
by_rows w cocycle d grid f colouring z lz = crossings_are_rows w cocycle d grid f (colours_of w.quandle d grid f colouring) z lz

pub step_keeps : (w : ShadowCochain) → IsShadowCocycle w → (d e : Diagram) (move : Move) → Step d move e → (f : List ℕ) → IsColouring w.quandle d f
    → (z : ℕ) → z < w.quandle.order → shadow_weight w e (carried w.quandle d move f) z ≡ shadow_weight w d f z
step_keeps w cocycle d e move step f colouring z lz =
    by_rows w cocycle e step.after (carried w.quandle d move f) ((step_carries w.quandle cocycle.quandle d e move step).into f colouring) z lz
    ∙ (step_keeps_rows w cocycle z lz d e move step f colouring ∙ sym (by_rows w cocycle d step.before f colouring z lz))
