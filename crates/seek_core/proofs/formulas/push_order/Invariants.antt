use Rattle.std.proofs.Common.{◌≡◌, ◌≤◌, ◌-◌, ◌++◌}
use Rattle.seek_core.specs.Formulas.{quandles_named}
use Rattle.seek_core.proofs.ByFormula.{first_of_order}
use Rattle.seek_core.proofs.formulas.push_order.Given as goal

abbrev pub invariant-loop-factor : goal.invariant-loop-factor
invariant-loop-factor l = (2 ≤ l.factor) × (l.list.items ≡ l.fn.list.items ++ quandles_named (first_of_order l.order (l.factor - 2)))
