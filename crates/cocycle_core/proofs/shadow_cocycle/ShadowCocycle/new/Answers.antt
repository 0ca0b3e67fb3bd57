use Rattle.std.proofs.Common.{◌∙◌, ℕ, List, ap, sym}
use Rattle.cocycle_core.specs.ShadowFault.{first_shadow_fault}
use Rattle.cocycle_core.proofs.ShadowAccepted.{cocycle_from_none}
use Rattle.cocycle_core.proofs.shadow_cocycle.ShadowCocycle.new.Goals as goal

pub of_table-requires : goal.of_table-requires
of_table-requires c =
    cocycle_from_none (record { quandle = c.args.quandle.now; modulus = c.args.modulus; entries = c.args.table.items }) c.order-order.ensures.quandle
    (ap (λ (l : List ℕ). first_shadow_fault (record { quandle = c.args.quandle.now; modulus = c.args.modulus; entries = l })) (sym c.as_slice.ensures.value)
    ∙ (sym c.first_fault.ensures ∙ c.in-None.is))
