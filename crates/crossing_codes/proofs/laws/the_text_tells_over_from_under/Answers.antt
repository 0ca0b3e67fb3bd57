use Rattle.crossing_codes.proofs.EdgeLaws.{printed_over, printed_under}
use Rattle.crossing_codes.proofs.laws.the_text_tells_over_from_under.Goals as goal

pub returns-clause-over : goal.returns-clause-over
returns-clause-over c = printed_over

pub returns-clause-under : goal.returns-clause-under
returns-clause-under c = printed_under
