use Rattle.std.proofs.Common.{◌≡◌, ◌^◌, ◌-◌, ◌∙◌, ℕ, min, ap, arith}
use Rattle.std.specs.Prelude.{nat_le}
use Rattle.colour_seeds.specs.declared.counting.TheConstants.{MAX_CANDIDATES}
use Rattle.colour_seeds.proofs.Caps.{capped}
use Rattle.colour_seeds.proofs.counting.few_ways.Goals as goal

pub returns : goal.returns
returns c =
    let order : c.from.result ≡ c.args.quandle.now.order = c.from.ensures ∙ c.order.ensures.order in
    capped c.from.result c.args.choices c.saturating_pow.result MAX_CANDIDATES (omega (arith, order, c.order-order.ensures.quandle.least))
    (omega arith) (omega arith)
    (c.saturating_pow.ensures ∙ ap (λ (k : ℕ). min (c.from.result ^ k) (2 ^ 32 - 1)) c.min-choices.ensures)
    ∙ ap (λ (q : ℕ). nat_le (q ^ c.args.choices) MAX_CANDIDATES) order
