use Rattle.seek_words.proofs.Settled.{never_both}
use Rattle.seek_words.proofs.laws.words_ask_for_something_or_nothing.Goals as goal

pub returns : goal.returns
returns c = never_both
