use Rattle.grid_keys.proofs.CanonicalForms.{canonical_of_translate, translate_from_canonical}
use Rattle.grid_keys.proofs.laws.translates_have_one_canonical_form.Goals as goal

pub returns-clause-same : goal.returns-clause-same
returns-clause-same c = canonical_of_translate

pub returns-clause-alone : goal.returns-clause-alone
returns-clause-alone c = translate_from_canonical
