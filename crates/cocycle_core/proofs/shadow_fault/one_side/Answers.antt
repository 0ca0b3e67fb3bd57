use Rattle.std.proofs.Common.{◌∙◌, ◌+◌, ap₂}
use Rattle.cocycle_core.specs.ShadowCocycle.{ShadowCochain, shadow_value}
use Rattle.cocycle_core.proofs.shadow_fault.one_side.Goals as goal

pub returns : goal.returns
returns c = λ modulus.
    let t : ShadowCochain = record { quandle = c.args.quandle.now; modulus = modulus; entries = c.args.table.now } in
    ap₂ (λ m n. m + n)
    (ap₂ (λ m n. m + n) (c.from-behind.ensures ∙ c.entry.ensures modulus)
    (c.from-passed.ensures ∙ (c.entry-2.ensures modulus ∙ ap₂ (λ m n. shadow_value t m n c.args.d) c.over.ensures c.over-2.ensures)))
    (c.from.ensures ∙ c.entry-3.ensures modulus)
