use Rattle.std.proofs.Common.{◌∙◌, ap, subst}
use Rattle.quandle_core.specs.Quandle.{Table}
use Rattle.text_items.specs.Reading.{Gives}
use Rattle.cocycle_core.specs.Formula.{has_formula}
use Rattle.evidence_core.specs.declared.shadows.SpelledShadow.{SpelledShadow}
use Rattle.number_text.specs.Shadows.{shadow_of}
use Rattle.number_text.proofs.shadows.shadow_of.Goals as goal

pub shadow_by-requires : goal.shadow_by-requires
shadow_by-requires c = record { formula = λ named. ap has_formula c.of-own.ensures ∙ c.requires.formula named }

pub returns : goal.returns
returns c =
    subst (λ (t : Table). Gives (λ (s : SpelledShadow). (s, c.shadow_by.new.lines)) c.shadow_by.result (shadow_of t c.args.head c.args.lines.now))
    c.of-own.ensures c.shadow_by.ensures
