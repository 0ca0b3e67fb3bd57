use Rattle.search_book.proofs.Recorded.{claim_keeps_settlements, done_adds_one, unless_done}
use Rattle.book_laws.proofs.machine.what_is_done_is_one_settlement.Goals as goal

pub returns-clause-done : goal.returns-clause-done
returns-clause-done c = done_adds_one

pub returns-clause-others : goal.returns-clause-others
returns-clause-others c = unless_done

pub returns-clause-claim : goal.returns-clause-claim
returns-clause-claim c = claim_keeps_settlements
