use Rattle.crossing_codes.proofs.AllPassages.{each_twice}
use Rattle.crossing_codes.proofs.EdgeLaws.{count_twice}
use Rattle.crossing_codes.proofs.laws.each_crossing_is_passed_twice.Goals as goal

pub returns-clause-each : goal.returns-clause-each
returns-clause-each c = each_twice

pub returns-clause-count : goal.returns-clause-count
returns-clause-count c = count_twice
