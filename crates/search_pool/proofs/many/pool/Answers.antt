use Rattle.std.proofs.Common.{subst}
use Rattle.search_book.specs.declared.problem.Problem.{Problem}
use Rattle.search_pool.specs.Finding.{IsFinding}
use Rattle.search_pool.proofs.many.pool.Goals as goal

pub returns-clause-finding : goal.returns-clause-finding
returns-clause-finding g c =
    subst (λ (p : Problem). IsFinding p c.counted.result) c.in_ok-book.ensures.problem c.counted.ensures.finding
