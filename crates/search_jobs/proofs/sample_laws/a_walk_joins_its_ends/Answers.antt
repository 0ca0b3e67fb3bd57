use Rattle.std.proofs.Common.{◌∙◌}
use Rattle.search_jobs.specs.declared.walk.TheConstants.{TURNS}
use Rattle.grid_core.specs.Trefoils.{right_trefoil}
use Rattle.search_jobs.specs.Walk.{seed_words, generator_of}
use Rattle.search_jobs.proofs.Walked.{walk_length, walk_within, words_length}
use Rattle.search_jobs.proofs.RightTrefoil.{right_trefoil_small}
use Rattle.search_jobs.proofs.sample_laws.a_walk_joins_its_ends.Goals as goal

pub returns : goal.returns
returns c = λ seed moves last walk. (
  walk_length (seed_words seed) moves right_trefoil last walk ∙ words_length TURNS (generator_of seed),
  walk_within
      (seed_words seed) moves right_trefoil last right_trefoil_small walk,
)
