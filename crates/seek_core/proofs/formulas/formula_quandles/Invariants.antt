use Rattle.std.proofs.Common.{◌≡◌, ◌≤◌, ◌-◌}
use Rattle.seek_core.specs.Formulas.{quandles_named}
use Rattle.seek_core.proofs.ByFormula.{first_orders}
use Rattle.seek_core.proofs.formulas.formula_quandles.Given as goal

abbrev pub invariant-loop-order : goal.invariant-loop-order
invariant-loop-order l = (4 ≤ l.order) × (l.list.items ≡ quandles_named (first_orders (l.order - 4)))
