use Rattle.frontier_core.specs.Run.{run}
use Rattle.frontier_core.proofs.Runs.{kept, drained}
use Rattle.frontier_core.proofs.laws.comes_out_once.Goals as goal

pub returns-clause-together : goal.returns-clause-together
returns-clause-together c = λ capacity events fit. (kept capacity events fit).together

pub returns-clause-drained : goal.returns-clause-drained
returns-clause-drained c = λ capacity events fit none. drained (run capacity events) (kept capacity events fit) none
