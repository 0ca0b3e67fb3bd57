use Rattle.frontier_core.proofs.Runs.{kept}
use Rattle.frontier_core.proofs.laws.same_size_in_order.Goals as goal

pub returns : goal.returns
returns c = λ capacity events size fit. (kept capacity events fit).in_order size
