use Rattle.std.proofs.Common.{arith}
use Rattle.std.proofs.Math.Nat.{pow-le-pow_right}
use Rattle.grid_canon.specs.declared.digits.TheConstants.{SHORT_BASE, MAX_SHORT_SIZE}
use Rattle.grid_canon.proofs.Placed.{repeated_digits}
use Rattle.grid_canon.proofs.digits.repeated.Goals as goal

pub overflow_mul-result : goal.overflow_mul-result
overflow_mul-result c =
    let g = repeated_digits c.args.count c.ones.result c.args.digit c.requires.digit c.ones.ensures in
    let power = pow-le-pow_right {n = SHORT_BASE} (omega arith) {i = c.args.count} {j = MAX_SHORT_SIZE} c.requires.most in
    record { fits = omega (arith, g.fits, power) }

pub returns-clause-fits : goal.returns-clause-fits
returns-clause-fits c = (repeated_digits c.args.count c.ones.result c.args.digit c.requires.digit c.ones.ensures).fits

pub returns-clause-each : goal.returns-clause-each
returns-clause-each c = (repeated_digits c.args.count c.ones.result c.args.digit c.requires.digit c.ones.ensures).at
