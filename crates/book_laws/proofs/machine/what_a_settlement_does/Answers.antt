use Rattle.book_laws.proofs.Accounts.{settlement_told}
use Rattle.book_laws.proofs.machine.what_a_settlement_does.Goals as goal

pub returns : goal.returns
returns c = settlement_told
