use Rattle.seek_words.proofs.Named.{one_placed}
use Rattle.seek_words.proofs.given.diagrams_among.Goals as goal

pub returns-in-len1 : goal.returns-in-len1
returns-in-len1 c = one_placed c.args.placed.now _ c.problem_of.result c.in-len1.len_at_least c.in-len1.len_below c.problem_of.ensures
