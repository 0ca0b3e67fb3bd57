use Rattle.grid_moves.proofs.Stopped.{joins_or_stops, not_both, stops_once}
use Rattle.grid_laws.proofs.moves.a_list_joins_or_stops.Goals as goal

pub returns-clause-either : goal.returns-clause-either
returns-clause-either c = joins_or_stops

pub returns-clause-not_both : goal.returns-clause-not_both
returns-clause-not_both c = not_both

pub returns-clause-once : goal.returns-clause-once
returns-clause-once c = stops_once
