use Rattle.std.proofs.Common.{Option, subst}
use Rattle.quandle_core.specs.Quandle.{Table}
use Rattle.text_items.specs.Reading.{Gives}
use Rattle.evidence_core.specs.declared.blocks.LargeWeighing.{LargeWeighing}
use Rattle.number_text.specs.BlockCocycles.{cocycle_or_none}
use Rattle.number_text.proofs.block_cocycles.perhaps_cocycle.Goals as goal

pub returns : goal.returns
returns c =
    subst (λ (t : Table). Gives (λ (o : Option LargeWeighing). (o, c.cocycle_or_none.new.lines)) c.cocycle_or_none.result (cocycle_or_none t c.args.lines.now))
    c.operations-operations.ensures.quandle c.cocycle_or_none.ensures
