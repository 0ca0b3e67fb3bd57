use Rattle.number_check.proofs.Rulings.{numbers_apart}
use Rattle.evidence_core.proofs.LinksOfGrids.{linking_apart}
use Rattle.verdict_laws.proofs.counts.what_holds_tells_apart.Goals as goal

pub returns-clause-numbers : goal.returns-clause-numbers
returns-clause-numbers c = numbers_apart

pub returns-clause-linking : goal.returns-clause-linking
returns-clause-linking c = linking_apart
