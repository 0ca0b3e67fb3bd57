use Rattle.seek_core.proofs.ending.run_whole.Goals as goal

pub returns-in-Ok-clause-ends : goal.returns-in-Ok-clause-ends
returns-in-Ok-clause-ends g c = c.deliver.ensures.ends c.args.bytes.now c.args.blocks.now c.in-Ok.ensures
