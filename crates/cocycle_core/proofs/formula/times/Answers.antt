use Rattle.std.proofs.Common.{arith}
use Rattle.std.proofs.lemmas.Nat.{mul-le}
use Rattle.quandle_core.specs.declared.quandle.TheConstants.{MAX_TABLE}
use Rattle.cocycle_core.proofs.formula.times.Goals as goal

pub overflow_mul-result : goal.overflow_mul-result
overflow_mul-result c = record { fits = omega (arith, mul-le c.args.a c.args.b MAX_TABLE MAX_TABLE (omega arith) (omega arith)) }
