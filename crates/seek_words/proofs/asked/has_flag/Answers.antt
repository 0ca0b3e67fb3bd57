use Rattle.std.proofs.Common.{◌∙◌}
use Rattle.clap.specs.Matches.{found_of, one_text}
use Rattle.seek_words.proofs.Flags.{flag_by}
use Rattle.seek_words.proofs.asked.has_flag.Goals as goal

pub returns-clause-yes : goal.returns-clause-yes
returns-clause-yes c = λ is. c.unwrap_or.ensures
    ∙ (flag_by _ (one_text (found_of c.args.matches.now) c.args.name.now) c.get_one.result c.get_one.ensures.none c.get_one.ensures.value).yes is

pub returns-clause-none : goal.returns-clause-none
returns-clause-none c = λ other. c.unwrap_or.ensures
    ∙ (flag_by _ (one_text (found_of c.args.matches.now) c.args.name.now) c.get_one.result c.get_one.ensures.none c.get_one.ensures.value).none other
