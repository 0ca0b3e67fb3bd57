use Rattle.search_jobs.proofs.SameText.{same_text}
use Rattle.search_jobs.proofs.sample_laws.each_walk_is_told_alike.Goals as goal

pub returns : goal.returns
returns c = same_text
