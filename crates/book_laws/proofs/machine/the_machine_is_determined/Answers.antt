use Rattle.book_laws.proofs.OneAfter.{begins_once, after_once}
use Rattle.book_laws.proofs.machine.the_machine_is_determined.Goals as goal

pub returns-clause-beginning : goal.returns-clause-beginning
returns-clause-beginning c = begins_once

pub returns-clause-event : goal.returns-clause-event
returns-clause-event c = after_once
