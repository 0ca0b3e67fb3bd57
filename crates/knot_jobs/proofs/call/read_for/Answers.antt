use Rattle.std.proofs.Common.{◌∙◌, sym}
use Rattle.knot_words.specs.Limits.{limit_of}
use Rattle.knot_jobs.proofs.InputRead.{input_read}
use Rattle.knot_jobs.proofs.call.read_for.Goals as goal

pub returns-in-Some-clause-read : goal.returns-in-Some-clause-read
returns-in-Some-clause-read g c =
    input_read (limit_of c.args.job) c.in-Some.limit _ c.read_input.result (sym c.limit.ensures.limit ∙ c.in-Some.is) c.read_input.ensures.read
