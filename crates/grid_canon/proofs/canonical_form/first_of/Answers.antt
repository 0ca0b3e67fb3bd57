use Rattle.std.proofs.Common.{arith, rules}
use Rattle.grid_keys.proofs.LeastTranslates.{first_least_lower, first_least_takes, first_least_keeps}
use Rattle.grid_canon.proofs.canonical_form.first_of.Goals as goal

pub returns-then-near_step-far_step-clause-first : goal.returns-then-near_step-far_step-clause-first
returns-then-near_step-far_step-clause-first c =
    first_least_lower (record { x = c.args.x.now; o = c.args.o.now }) c.args.near c.args.far c.args.near_step c.args.far_step c.requires.grid c.requires.near
    c.requires.far c.requires.near_step c.requires.far_step (omega arith)

pub returns-then-eq-clause-first : goal.returns-then-eq-clause-first
returns-then-eq-clause-first c = first_least_takes (record { x = c.args.x.now; o = c.args.o.now }) c.args.near c.args.far c.requires.far (search rules)

pub returns-else-eq-clause-first : goal.returns-else-eq-clause-first
returns-else-eq-clause-first c = first_least_keeps (record { x = c.args.x.now; o = c.args.o.now }) c.args.near c.args.far c.requires.far (search rules)
