use Rattle.search_book.proofs.Recorded.{before_the_end, claim_when_over, settle_when_over}
use Rattle.book_laws.proofs.machine.a_book_that_is_over_stays_over.Goals as goal

pub returns-clause-event : goal.returns-clause-event
returns-clause-event c = before_the_end

pub returns-clause-claim : goal.returns-clause-claim
returns-clause-claim c = claim_when_over

pub returns-clause-settle : goal.returns-clause-settle
returns-clause-settle c = settle_when_over
