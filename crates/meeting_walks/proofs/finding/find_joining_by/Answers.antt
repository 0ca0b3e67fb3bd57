use Rattle.meeting_walks.proofs.Untranslated.{untranslated, says_nothing}
use Rattle.meeting_walks.proofs.finding.find_joining_by.Goals as goal

pub returns-in-None-clause-translates : goal.returns-in-None-clause-translates
returns-in-None-clause-translates g c = says_nothing c.sought_by.result (untranslated c.args.first.now c.args.second.now c.in-None.ensures.none)
