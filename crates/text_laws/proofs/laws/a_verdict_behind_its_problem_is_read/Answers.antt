use Rattle.knot_text.proofs.ReadBack.{verdict_behind}
use Rattle.knot_text.proofs.FeedBetween.{verdict_behind_feed}
use Rattle.text_laws.proofs.laws.a_verdict_behind_its_problem_is_read.Goals as goal

pub returns-clause-whole : goal.returns-clause-whole
returns-clause-whole c = verdict_behind

pub returns-clause-feed : goal.returns-clause-feed
returns-clause-feed c = verdict_behind_feed
