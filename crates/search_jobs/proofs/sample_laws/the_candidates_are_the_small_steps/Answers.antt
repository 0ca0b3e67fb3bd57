use Rattle.search_jobs.proofs.Tried.{candidates_are}
use Rattle.search_jobs.proofs.sample_laws.the_candidates_are_the_small_steps.Goals as goal

pub returns : goal.returns
returns c = candidates_are
