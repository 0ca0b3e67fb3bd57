use Rattle.std.proofs.Common.{rules, ◌∷◌, [], sym, subst}
use Rattle.evidence_core.specs.declared.blocks.Block.{Block}
use Rattle.evidence_core.specs.declared.evidence.Evidence.TheVariants.{Numbers}
use Rattle.quandle_core.specs.Quandle.{IsQuandle}
use Rattle.colour_numbers.specs.Numbers.{IsCocycleOrNone}
use Rattle.number_check.proofs.Rulings.{numbers_apart}
use Rattle.number_search.proofs.Held.{blocks_hold}
use Rattle.number_search.proofs.told.told_by_block.Goals as goal

pub returns-clause-evidence : goal.returns-clause-evidence
returns-clause-evidence c = search rules

pub returns-clause-accepted : goal.returns-clause-accepted
returns-clause-accepted c =
    blocks_hold c.args.first.now c.args.second.now c.args.seeds.now (c.args.block.now ∷ []) (Numbers c.in_ok-block.block c.counted.result c.counted-2.result)
    c.size-first.ensures.grid c.size-second.ensures.grid c.requires.plans (sym (returns-clause-evidence c))

pub returns-clause-apart : goal.returns-clause-apart
returns-clause-apart c = numbers_apart c.args.first.now c.args.second.now c.in_ok-block.block c.counted.result c.counted-2.result
    (subst (λ (b : Block). IsQuandle b.listed.table) (sym c.in_ok-block.ensures) c.laws_of.ensures.quandle)
    (subst (λ (b : Block). IsCocycleOrNone b.cocycle) (sym c.in_ok-block.ensures) c.laws_of.ensures.cocycle)
    (returns-clause-accepted c)
