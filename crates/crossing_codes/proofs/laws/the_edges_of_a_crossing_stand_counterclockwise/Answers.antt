use Rattle.crossing_codes.proofs.EdgeLaws.{counterclockwise}
use Rattle.crossing_codes.proofs.laws.the_edges_of_a_crossing_stand_counterclockwise.Goals as goal

pub returns : goal.returns
returns c = counterclockwise
