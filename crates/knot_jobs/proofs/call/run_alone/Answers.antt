use Rattle.std.proofs.Common.{rules}
use Rattle.knot_jobs.specs.Call.{only_one, call_of}
use Rattle.knot_jobs.proofs.Endings.{refused_goes, reply_goes}
use Rattle.knot_jobs.proofs.call.run_alone.Goals as goal

pub returns-in-Err-clause-goes : goal.returns-in-Err-clause-goes
returns-in-Err-clause-goes g c =
    refused_goes (call_of _ only_one _ _) c.in-Err.fault c.refuse.result c.begin.new.kept (search rules) (search rules) c.refuse.ensures.refused
    c.begin.ensures.none

pub returns-clause-goes : goal.returns-clause-goes
returns-clause-goes g c =
    reply_goes (call_of _ only_one _ _) c.in-Ok.asked c.by_one_worker-asked.result c.answer_source_alone-reply.result c.end.result c.end.new.kept (search rules)
    c.by_one_worker-asked.ensures.asked c.answer_source_alone-reply.ensures.made c.end.ensures.ended
