use Rattle.grid_moves.proofs.TurnedBack.{undone_joins, undone_back, undone_within}
use Rattle.grid_laws.proofs.moves.an_undone_list_leads_back.Goals as goal

pub returns-clause-there : goal.returns-clause-there
returns-clause-there c = undone_joins

pub returns-clause-back : goal.returns-clause-back
returns-clause-back c = undone_back

pub returns-clause-within : goal.returns-clause-within
returns-clause-within c = λ cap moves back d e undone joined. undone_within cap moves back d e joined undone
