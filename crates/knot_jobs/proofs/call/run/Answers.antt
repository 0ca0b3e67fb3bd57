use Rattle.std.proofs.Common.{rules, refl}
use Rattle.knot_jobs.specs.Call.{as_many_as_asked, call_of}
use Rattle.knot_jobs.proofs.Endings.{refused_goes, reply_goes}
use Rattle.knot_jobs.proofs.call.run.Goals as goal

pub returns-in-Err-clause-goes : goal.returns-in-Err-clause-goes
returns-in-Err-clause-goes g c =
    refused_goes (call_of _ as_many_as_asked _ _) c.in-Err.fault c.refuse.result c.begin.new.kept (search rules) (search rules) c.refuse.ensures.refused
    c.begin.ensures.none

pub returns-clause-goes : goal.returns-clause-goes
returns-clause-goes g c =
    reply_goes (call_of _ as_many_as_asked _ _) c.in-Ok.asked c.in-Ok.asked c.answer_source-reply.result c.end.result c.end.new.kept (search rules)
    refl c.answer_source-reply.ensures.made c.end.ensures.ended
