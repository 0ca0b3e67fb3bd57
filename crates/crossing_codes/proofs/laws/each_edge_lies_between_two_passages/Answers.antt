use Rattle.crossing_codes.proofs.EdgeLaws.{edges_end, edges_begin, edges_each}
use Rattle.crossing_codes.proofs.laws.each_edge_lies_between_two_passages.Goals as goal

pub returns-clause-ends : goal.returns-clause-ends
returns-clause-ends c = edges_end

pub returns-clause-begins : goal.returns-clause-begins
returns-clause-begins c = edges_begin

pub returns-clause-each : goal.returns-clause-each
returns-clause-each c = λ d grid. edges_each d
