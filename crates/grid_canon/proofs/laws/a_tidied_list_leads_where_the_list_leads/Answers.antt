use Rattle.grid_canon.proofs.Tidied.{tidied_is_tidy, tidied_joins, tidied_from, others_kept}
use Rattle.grid_canon.proofs.TidiedRuns.{run_alone, run_first}
use Rattle.grid_canon.proofs.laws.a_tidied_list_leads_where_the_list_leads.Goals as goal

pub returns : goal.returns
returns c = record {
  tidy = λ n moves. tidied_is_tidy moves n;
  joins = λ d e moves grid joined. tidied_joins moves d e grid joined;
  within = λ cap d e moves grid joined. tidied_from cap moves d e grid joined;
  others = λ n moves. others_kept moves n 0 0;
  run = λ n run shifts. run_alone n run shifts;
  runs = λ n run moves move shifts other. run_first n run moves move shifts other;
}
