use Rattle.std.proofs.Common.{◌∙◌, ℕ, List, sym, ap, subst}
use Rattle.quandle_core.specs.Quandle.{Table, IsQuandle}
use Rattle.cocycle_core.specs.Cocycle.{Cochain}
use Rattle.cocycle_core.specs.Fault.{first_cocycle_fault}
use Rattle.cocycle_core.proofs.Accepted.{cocycle_from_none}
use Rattle.cocycle_core.proofs.large.LargeCocycle.new.Goals as goal

pub invariant_of-result : goal.invariant_of-result
invariant_of-result c =
    let w : Table → List ℕ → Cochain = λ t es. record { quandle = t; modulus = c.args.modulus; entries = es } in
    cocycle_from_none (w c.args.quandle c.args.table.items) (subst IsQuandle c.operations-operations.ensures c.order-order.ensures.quandle)
    (ap (λ (t : Table). first_cocycle_fault (w t c.args.table.items)) (sym c.operations-operations.ensures)
    ∙ ap (λ (es : List ℕ). first_cocycle_fault (w c.operations-operations.result es)) (sym c.as_slice.ensures.value) ∙ sym c.table_fault.ensures ∙ c.in-None.is)
