use Rattle.std.proofs.Common.{◌∙◌, ◌+◌, ap, ap₂}
use Rattle.quandle_core.specs.Quandle.{over}
use Rattle.cocycle_core.specs.ShadowCocycle.{ShadowCochain, shadow_value}
use Rattle.cocycle_core.proofs.shadow_fault.other_side.Goals as goal

pub returns : goal.returns
returns c = λ modulus.
    let t : ShadowCochain = record { quandle = c.args.quandle.now; modulus = modulus; entries = c.args.table.now } in
    ap₂ (λ m n. m + n)
    (ap₂ (λ m n. m + n) (c.from-beyond.ensures ∙ (c.entry.ensures modulus ∙ ap (λ m. shadow_value t m c.args.c c.args.d) c.over.ensures))
    (c.from-before.ensures ∙ c.entry-2.ensures modulus))
    (c.from.ensures ∙ (c.entry-3.ensures modulus ∙ (ap₂ (λ m n. shadow_value t m n c.over-4.result) c.over-2.ensures c.over-3.ensures
    ∙ ap (shadow_value t (over c.args.quandle.now c.args.a c.args.d) (over c.args.quandle.now c.args.b c.args.d)) c.over-4.ensures)))
