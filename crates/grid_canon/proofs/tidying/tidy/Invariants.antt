use Rattle.grid_canon.proofs.Making.{IsInMaking}
use Rattle.grid_canon.proofs.tidying.tidy.Given as goal

abbrev pub invariant-loop-step : goal.invariant-loop-step
invariant-loop-step l = IsInMaking l.first l.steps l.step-index l.list.items l.run
