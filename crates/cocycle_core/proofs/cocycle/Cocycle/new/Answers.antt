use Rattle.std.proofs.Common.{◌∙◌, sym, ap}
use Rattle.quandle_core.specs.Quandle.{Table}
use Rattle.cocycle_core.specs.Cocycle.{Cochain}
use Rattle.cocycle_core.specs.Fault.{first_cocycle_fault}
use Rattle.cocycle_core.proofs.Accepted.{cocycle_from_none}
use Rattle.cocycle_core.proofs.cocycle.Cocycle.new.Goals as goal

pub of_table-requires : goal.of_table-requires
of_table-requires c =
    let w : Table → Cochain = λ t. record { quandle = t; modulus = c.args.modulus; entries = c.args.table.now } in
    cocycle_from_none (w c.args.quandle.now) c.order-order.ensures.quandle
    (ap (λ (t : Table). first_cocycle_fault (w t)) (sym c.operations.ensures) ∙ sym c.table_fault.ensures ∙ c.in-None.is)
