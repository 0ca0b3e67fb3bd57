use Rattle.std.proofs.Common.{arith}
use Rattle.search_jobs.proofs.laws.each_spare_raises_the_cap.Goals as goal

pub returns-clause-none : goal.returns-clause-none
returns-clause-none c asked d e p q none = omega (arith, p.most, q.most, none)

pub returns-clause-more : goal.returns-clause-more
returns-clause-more c asked more d e step = omega (arith, step)
