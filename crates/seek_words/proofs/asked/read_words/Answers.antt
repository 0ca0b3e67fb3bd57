use Rattle.clap.specs.Matches.{found_of}
use Rattle.clap.specs.Walk.{rows_of}
use Rattle.knot_words.specs.OptionNumbers.{texts_of}
use Rattle.seek_words.proofs.Shown.{refused_for}
use Rattle.seek_words.proofs.asked.read_words.Goals as goal

pub returns-clause-refused : goal.returns-clause-refused
returns-clause-refused c = refused_for c.asked_by.result (texts_of c.args.words.now) (rows_of (found_of c.in_ok-matches.matches))
    c.in_ok-matches.ensures.taken c.in_ok-matches.ensures.rows c.asked_by.ensures.refused
