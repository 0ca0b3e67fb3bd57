use Rattle.text_lines.proofs.FirstPlace.{first_place}
use Rattle.text_lines.specs.Cut.{is_feed}
use Rattle.text_lines.proofs.cutting.feed_place.Goals as goal

pub returns : goal.returns
returns c = first_place is_feed c.args.bytes.now c.memchr.result c.memchr.ensures
