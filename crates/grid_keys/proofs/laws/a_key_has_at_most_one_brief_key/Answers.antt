use Rattle.grid_keys.proofs.Briefs.{brief_once, few_columns}
use Rattle.grid_keys.proofs.laws.a_key_has_at_most_one_brief_key.Goals as goal

pub returns-clause-one : goal.returns-clause-one
returns-clause-one c = λ a b same. brief_once a b same

pub returns-clause-few : goal.returns-clause-few
returns-clause-few c = λ d grid few. few_columns d grid few
