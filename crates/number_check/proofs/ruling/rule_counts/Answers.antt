use Rattle.std.proofs.Common.{rules}
use Rattle.number_check.specs.EvidenceHolds.{NumbersDiffer}
use Rattle.number_check.proofs.Rulings.{numbers_apart}
use Rattle.number_check.proofs.ruling.rule_counts.Goals as goal

pub returns-clause-apart : goal.returns-clause-apart
returns-clause-apart c = λ accepted.
    let holds : NumbersDiffer c.args.block.now c.args.one.now.grid.now c.args.two.now.grid.now c.args.one.now.counted.now c.args.two.now.counted.now =
    search rules in
    numbers_apart c.args.one.now.grid.now c.args.two.now.grid.now c.args.block.now c.args.one.now.counted.now c.args.two.now.counted.now
    c.laws_of.ensures.quandle c.laws_of.ensures.cocycle holds
