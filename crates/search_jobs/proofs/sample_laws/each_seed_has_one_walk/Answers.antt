use Rattle.grid_core.specs.Trefoils.{right_trefoil}
use Rattle.search_jobs.specs.Walk.{seed_words}
use Rattle.search_jobs.proofs.Walked.{some_walk, same_walk}
use Rattle.search_jobs.proofs.RightTrefoil.{right_trefoil_grid, right_trefoil_small}
use Rattle.search_jobs.proofs.sample_laws.each_seed_has_one_walk.Goals as goal

pub returns-clause-one : goal.returns-clause-one
returns-clause-one c = λ seed. some_walk (seed_words seed) right_trefoil right_trefoil_grid right_trefoil_small

pub returns-clause-single : goal.returns-clause-single
returns-clause-single c = λ seed moves moves' last last' one two. same_walk (seed_words seed) moves moves' right_trefoil last last' one two
