use Rattle.std.proofs.Common.{◌≡◌, ◌+◌, ◌-◌, ◌/◌, ◌^◌, ◌∙◌, ℕ, arith, sym, ap}
use Rattle.grid_canon.specs.declared.digits.TheConstants.{SHORT_BASE, MAX_SHORT_SIZE, ONES}
use Rattle.grid_canon.proofs.ShortNumbers.{short_bits}
use Rattle.grid_canon.proofs.Guards.{ones_of, ones_shifted}
use Rattle.grid_canon.proofs.digits.ones.Goals as goal

pub returns : goal.returns
returns c =
    let other : ℕ = MAX_SHORT_SIZE - c.args.count in
    let all : c.args.count + other ≡ MAX_SHORT_SIZE = omega arith in
    ap (λ (z : ℕ). ONES / z) (sym (short_bits other)) ∙ ap (λ (z : ℕ). ones_of z / SHORT_BASE ^ other) (sym all) ∙ ones_shifted c.args.count other
