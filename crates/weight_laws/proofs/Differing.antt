-- The two trefoils have different weights.
use Rattle.std.proofs.Common.{◌≡◌, ◌∙◌, ℕ, List, [], ◌∷◌, ap, sym, arith}
use Rattle.std.specs.Prelude.{slice_index}
use Rattle.grid_moves.specs.Joining.{Equivalent}
use Rattle.quandle_core.specs.Quandle.{IsQuandle}
use Rattle.quandle_core.specs.Tables.{dihedral}
use Rattle.grid_core.specs.Trefoils.{right_trefoil, left_trefoil}
use Rattle.cocycle_core.specs.Mochizuki.{mochizuki_three}
use Rattle.colour_weights.specs.ShadowWeights.{shadow_weights}
use Rattle.cocycle_core.proofs.ShadowAccepted.{cocycle_from_none}
use Rattle.colour_weights.proofs.ShadowCounted.{equivalent_weights}
use Rattle.weight_laws.proofs.WorkedShadows.{no_fault, right_weights, left_weights}
use Rattle.quandle_core.proofs.Linear.{dihedral_is}

is_quandle : IsQuandle (dihedral 3)
is_quandle = dihedral_is 3 (omega arith)

pub trefoils_differ : Equivalent right_trefoil left_trefoil → ⊥
trefoils_differ equivalent =
    let same : shadow_weights mochizuki_three right_trefoil ≡ shadow_weights mochizuki_three left_trefoil =
    equivalent_weights mochizuki_three (cocycle_from_none mochizuki_three is_quandle no_fault) right_trefoil left_trefoil equivalent in
    let lists : 9 ∷ 0 ∷ 18 ∷ [] ≡ 9 ∷ 18 ∷ 0 ∷ [] = sym right_weights ∙ same ∙ left_weights in
    let numbers : 0 ≡ 18 = ap (λ (l : List ℕ). slice_index l 1) lists in
    omega (arith, numbers)
