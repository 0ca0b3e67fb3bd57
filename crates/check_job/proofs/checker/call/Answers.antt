use Rattle.check_job.proofs.checker.call.Goals as goal

pub returns : goal.returns
returns g c = record { status = c.run-status.result; number = c.exit_code.ensures; ends = c.run-status.ensures.ends }
