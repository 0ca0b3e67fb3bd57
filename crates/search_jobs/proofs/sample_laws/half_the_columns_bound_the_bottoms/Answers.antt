use Rattle.search_jobs.proofs.Bottoms.{half_are_bottoms}
use Rattle.search_jobs.proofs.sample_laws.half_the_columns_bound_the_bottoms.Goals as goal

pub returns : goal.returns
returns c = half_are_bottoms
