use Rattle.std.proofs.Common.{◌∙◌, ◌≡◌, ◌-◌, ◌+◌, ◌*◌, ◌/◌, ◌%◌, ◌^◌, ℕ, arith, ap}
use Rattle.grid_canon.specs.declared.digits.TheConstants.{SHORT_BASE, SHORT_BITS}
use Rattle.grid_canon.proofs.DigitLists.{digit_word}
use Rattle.grid_canon.proofs.digits.nth_digit.Goals as goal

pub returns : goal.returns
returns c =
    let behind : c.args.size - c.args.place - 1 ≡ c.args.size - (c.args.place + 1) = omega (arith, c.requires.place) in
    ap (λ (z : ℕ). c.args.value / 2 ^ (SHORT_BITS * z) % SHORT_BASE) behind ∙ digit_word c.args.value c.args.place c.args.size c.requires.place c.requires.value
