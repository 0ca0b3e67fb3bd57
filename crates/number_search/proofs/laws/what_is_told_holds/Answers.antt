use Rattle.number_search.proofs.Held.{told_holds}
use Rattle.number_search.proofs.laws.what_is_told_holds.Goals as goal

pub returns : goal.returns
returns c = told_holds
