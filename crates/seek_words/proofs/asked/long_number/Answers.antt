use Rattle.clap.specs.Matches.{found_of, one_text}
use Rattle.seek_words.proofs.Numbers.{found_by}
use Rattle.seek_words.proofs.asked.long_number.Goals as goal

pub returns : goal.returns
returns c = found_by 64 (one_text (found_of c.args.matches.now) c.args.name.now) c.get_one.result c.get_one.ensures.none c.get_one.ensures.value
