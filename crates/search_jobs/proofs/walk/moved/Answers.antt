use Rattle.search_jobs.proofs.Picked.{candidate_fault, candidate_small}
use Rattle.search_jobs.proofs.walk.moved.Goals as goal

pub unreachable-requires : goal.unreachable-requires
unreachable-requires c = candidate_fault c.args.grid.now c.args.step c.in-Err.field-0 c.requires c.in-Err.ensures.fault

pub returns-clause-small : goal.returns-clause-small
returns-clause-small c = candidate_small c.args.grid.now c.args.step c.in-Ok.moved c.requires c.in-Ok.ensures.moved
