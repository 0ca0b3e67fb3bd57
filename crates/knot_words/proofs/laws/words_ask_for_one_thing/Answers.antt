use Rattle.knot_words.proofs.AskedOnce.{asked_once, never_both}
use Rattle.knot_words.proofs.laws.words_ask_for_one_thing.Goals as goal

pub returns-clause-once : goal.returns-clause-once
returns-clause-once c = asked_once

pub returns-clause-never_both : goal.returns-clause-never_both
returns-clause-never_both c = never_both
