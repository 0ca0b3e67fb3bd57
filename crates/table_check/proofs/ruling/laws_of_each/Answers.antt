use Rattle.std.proofs.Common.{List, subst}
use Rattle.std.specs.List.{All}
use Rattle.std.proofs.lemmas.List.{take_all}
use Rattle.std.proofs.lemmas.List.Elements.{All-more}
use Rattle.quandle_core.specs.Quandle.{IsQuandle}
use Rattle.colour_numbers.specs.Numbers.{IsCocycleOrNone}
use Rattle.evidence_core.specs.declared.blocks.Block.{Block}
use Rattle.table_check.proofs.ruling.laws_of_each.Goals as goal

pub loop-block-preserved : goal.loop-block-preserved
loop-block-preserved c = (
  All-more (λ (b : Block). IsQuandle b.listed.table) c.args.blocks.now c.loop-block.block-index _ c.loop-block-test.true c.loop-block.invariant.0
      (subst (λ (b : Block). IsQuandle b.listed.table) c.block-item.is c.laws_of.ensures.quandle),
  All-more (λ (b : Block). IsCocycleOrNone b.cocycle) c.args.blocks.now c.loop-block.block-index _ c.loop-block-test.true c.loop-block.invariant.1
      (subst (λ (b : Block). IsCocycleOrNone b.cocycle) c.block-item.is c.laws_of.ensures.cocycle),
)

pub returns-clause-quandles : goal.returns-clause-quandles
returns-clause-quandles c =
    subst (λ (bs : List Block). All (λ (b : Block). IsQuandle b.listed.table) bs)
    (take_all c.loop-block.block-index c.args.blocks.now c.loop-block-test.false) c.loop-block.invariant.0

pub returns-clause-cocycles : goal.returns-clause-cocycles
returns-clause-cocycles c =
    subst (λ (bs : List Block). All (λ (b : Block). IsCocycleOrNone b.cocycle) bs)
    (take_all c.loop-block.block-index c.args.blocks.now c.loop-block-test.false) c.loop-block.invariant.1
