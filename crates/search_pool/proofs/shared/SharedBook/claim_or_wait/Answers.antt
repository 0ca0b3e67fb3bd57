use Rattle.search_pool.proofs.shared.SharedBook.claim_or_wait.Goals as goal

pub returns-in-Work-clause-some : goal.returns-in-Work-clause-some
returns-in-Work-clause-some g c = c.claim-answer.ensures.work c.in-Work.task c.in-Work.is
