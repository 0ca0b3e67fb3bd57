use Rattle.book_laws.proofs.LaterEntries.{later_after}
use Rattle.book_laws.proofs.machine.a_claimed_entry_is_never_unclaimed_again.Goals as goal

pub returns : goal.returns
returns c = later_after
