use Rattle.std.proofs.Common.{sym, subst}
use Rattle.colour_seeds.specs.Plan.{IsPlan}
use Rattle.colour_seeds.proofs.counting.count.Goals as goal

pub count_all-requires-clause-plan : goal.count_all-requires-clause-plan
count_all-requires-clause-plan c = subst (IsPlan c.args.grid.now) (sym c.steps.ensures) c.requires.plan
