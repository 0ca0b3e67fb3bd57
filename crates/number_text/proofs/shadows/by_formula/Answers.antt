use Rattle.std.proofs.Common.{◌∙◌, ap}
use Rattle.std.proofs.lemmas.Bool.{and_parts}
use Rattle.cocycle_core.specs.ShadowCocycle.{ShadowCochain}
use Rattle.evidence_core.specs.declared.shadows.Spelling.TheVariants as spelling
use Rattle.cocycle_core.specs.Formula.{is_prime, is_dihedral, mochizuki}
use Rattle.number_text.specs.Shadows.{spelled}
use Rattle.number_text.proofs.shadows.by_formula.Goals as goal

pub mochizuki-requires-clause-prime : goal.mochizuki-requires-clause-prime
mochizuki-requires-clause-prime c =
    ap is_prime c.order-order.ensures.order ∙ (and_parts (is_prime c.args.quandle.now.order) (is_dihedral c.args.quandle.now) c.requires).0

pub mochizuki-requires-clause-most : goal.mochizuki-requires-clause-most
mochizuki-requires-clause-most c = c.order-order.ensures.few

pub returns : goal.returns
returns c = ap (λ (t : ShadowCochain). spelled spelling.Mochizuki t) (c.in_ok-cocycle.ensures ∙ ap mochizuki c.order-order.ensures.order)
