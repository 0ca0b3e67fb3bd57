use Rattle.std.proofs.Common.{subst}
use Rattle.quandle_core.specs.Quandle.{Table}
use Rattle.text_items.specs.Reading.{Gives}
use Rattle.evidence_core.specs.declared.shadows.SpelledShadow.{SpelledShadow}
use Rattle.number_text.specs.Shadows.{shadow_item}
use Rattle.number_text.proofs.weighed.shadow_due.Goals as goal

pub returns : goal.returns
returns c =
    subst (λ (t : Table). Gives (λ (s : SpelledShadow). (s, c.shadow_item.new.lines)) c.shadow_item.result (shadow_item t c.args.lines.now))
    c.operations-operations.ensures c.shadow_item.ensures
