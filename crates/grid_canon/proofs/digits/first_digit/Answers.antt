use Rattle.std.proofs.Common.{◌/◌, ◌-◌, ℕ, ap, sym}
use Rattle.grid_canon.proofs.ShortNumbers.{short_bits}
use Rattle.grid_canon.proofs.digits.first_digit.Goals as goal

pub returns : goal.returns
returns c = ap (λ (z : ℕ). c.args.value / z) (sym (short_bits (c.args.size - 1)))
