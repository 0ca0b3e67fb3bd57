use Rattle.std.proofs.Common.{◌≡◌, ◌∙◌, rules, sym}
use Rattle.number_check.specs.Cause.{counts_cause}
use Rattle.number_check.proofs.Causes.{some_cause, numbers_hold}
use Rattle.number_check.proofs.counts.cause_by.Goals as goal

pub returns-clause-some : goal.returns-clause-some
returns-clause-some c =
    let is : c.in_ok-given.given ≡ counts_cause c.args.block.now c.args.which c.args.said.now.grid.now c.args.said.now.counted.now = search rules in
    some_cause c.args.block.now c.args.which c.args.said.now.grid.now c.args.said.now.counted.now c.in_ok-given.given c.requires.settled is

pub returns-clause-none : goal.returns-clause-none
returns-clause-none c = λ none.
    let is : c.in_ok-given.given ≡ counts_cause c.args.block.now c.args.which c.args.said.now.grid.now c.args.said.now.counted.now = search rules in
    numbers_hold c.args.block.now c.args.which c.args.said.now.grid.now c.args.said.now.counted.now c.requires.settled (sym is ∙ none)
