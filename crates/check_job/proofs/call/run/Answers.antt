use Rattle.std.proofs.Common.{rules, subst}
use Rattle.knot_ports.specs.Change.{source_change}
use Rattle.check_job.specs.Delivered.{IsCheckReplyMade}
use Rattle.check_job.proofs.Endings.{reply_ends, without_ends}
use Rattle.check_job.proofs.call.run.Goals as goal

pub returns-in-Ok-clause-ends : goal.returns-in-Ok-clause-ends
returns-in-Ok-clause-ends g c =
    let source = source_change g.S.Source c.args.source.now c.answer_source.new.source in
    let made = subst (IsCheckReplyMade source) c.in-Ok.is c.answer_source.ensures.made in
    reply_ends source _ c.in-Ok.reply c.deliver.result made c.deliver.ensures.written

pub returns-in-Err-clause-ends : goal.returns-in-Err-clause-ends
returns-in-Err-clause-ends g c =
    let source = source_change g.S.Source c.args.source.now c.answer_source.new.source in
    let made = subst (IsCheckReplyMade source) c.in-Err.is c.answer_source.ensures.made in
    without_ends source _ c.in-Err.status made (search rules)
