use Rattle.book_laws.proofs.OncePerRun.{claims_differ, settlements_differ}
use Rattle.book_laws.proofs.machine.no_id_is_claimed_or_settled_twice.Goals as goal

pub returns-clause-claims : goal.returns-clause-claims
returns-clause-claims c = λ s t events run. claims_differ events s t run

pub returns-clause-settlements : goal.returns-clause-settlements
returns-clause-settlements c = λ s t events run. settlements_differ events s t run
