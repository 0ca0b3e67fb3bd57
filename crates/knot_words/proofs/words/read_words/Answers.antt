use Rattle.std.proofs.Common.{rules, codes}
use Rattle.knot_words.specs.OptionNumbers.{texts_of}
use Rattle.knot_words.proofs.KnotReads.{budget_read, number_is_given, seed_read, spare_read, workers_read}
use Rattle.knot_words.proofs.words.read_words.Goals as goal

pub number_given-requires : goal.number_given-requires
number_given-requires c = (workers_read _ c.in_ok-matches.ensures.matches).there

pub number_given-requires-2 : goal.number_given-requires-2
number_given-requires-2 c = (budget_read _ c.in_ok-matches.ensures.matches).there

pub number_given-requires-3 : goal.number_given-requires-3
number_given-requires-3 c = (spare_read _ c.in_ok-matches.ensures.matches).there

pub number_given-requires-4 : goal.number_given-requires-4
number_given-requires-4 c = (seed_read _ c.in_ok-matches.ensures.matches).there

pub returns-clause-asked : goal.returns-clause-asked
returns-clause-asked c =
    let m = c.in_ok-matches.matches in
    let h = c.in_ok-matches.ensures.matches in
    let words = texts_of c.args.words.now in
    let rows = c.in_ok-matches.ensures.rows in
    record {
      taken = search rules;
      job = search rules;
      workers = number_is_given m (codes "workers") words _ rows ((workers_read m h).number _ c.number_given.ensures).0;
      budget = number_is_given m (codes "budget") words _ rows ((budget_read m h).number _ c.number_given-2.ensures).0;
      spare = number_is_given m (codes "spare") words _ rows ((spare_read m h).number _ c.number_given-3.ensures).0;
      seed = number_is_given m (codes "seed") words _ rows ((seed_read m h).number _ c.number_given-4.ensures).0;
    }

pub returns-clause-bounds : goal.returns-clause-bounds
returns-clause-bounds c =
    let m = c.in_ok-matches.matches in
    let h = c.in_ok-matches.ensures.matches in
    record {
      workers = ((workers_read m h).number _ c.number_given.ensures).1;
      budget = ((budget_read m h).number _ c.number_given-2.ensures).1;
      spare = ((spare_read m h).number _ c.number_given-3.ensures).1.1;
    }
