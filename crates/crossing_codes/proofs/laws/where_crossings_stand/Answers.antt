use Rattle.crossing_codes.proofs.EdgeLaws.{where_crossings}
use Rattle.crossing_codes.proofs.laws.where_crossings_stand.Goals as goal

pub returns : goal.returns
returns c = where_crossings
