use Rattle.knot_text.proofs.LastFeed.{feed_added, feed_ends}
use Rattle.text_laws.proofs.lines.a_last_line_may_lack_its_feed.Goals as goal

pub returns-clause-same : goal.returns-clause-same
returns-clause-same c = feed_added

pub returns-clause-whole : goal.returns-clause-whole
returns-clause-whole c = feed_ends
