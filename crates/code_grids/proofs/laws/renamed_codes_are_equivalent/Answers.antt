use Rattle.code_grids.proofs.Renamed.{undoing, renamed_back}
use Rattle.code_grids.proofs.Rearranged.{itself, through}
use Rattle.code_grids.proofs.laws.renamed_codes_are_equivalent.Goals as goal

pub returns-clause-itself : goal.returns-clause-itself
returns-clause-itself c = itself

pub returns-clause-back : goal.returns-clause-back
returns-clause-back c = λ one two r. (undoing r.0, renamed_back one two r.0 r.1)

pub returns-clause-through : goal.returns-clause-through
returns-clause-through c = λ one two three r s. (_, through one two three r.0 s.0 r.1 s.1)
