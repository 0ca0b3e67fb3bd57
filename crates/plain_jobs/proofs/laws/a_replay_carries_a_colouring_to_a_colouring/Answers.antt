use Rattle.plain_jobs.proofs.Along.{joins_along, colouring_along}
use Rattle.plain_jobs.proofs.laws.a_replay_carries_a_colouring_to_a_colouring.Goals as goal

pub returns-clause-joins : goal.returns-clause-joins
returns-clause-joins c = λ t d e colours last moves carries. joins_along t moves d e colours last carries

pub returns-clause-colouring : goal.returns-clause-colouring
returns-clause-colouring c = λ t d e colours last moves quandle carries colouring. colouring_along t moves d e colours last quandle carries colouring
