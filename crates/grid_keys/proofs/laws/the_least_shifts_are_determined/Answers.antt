use Rattle.grid_keys.proofs.CanonicalForms.{least_form_exists, least_form_once}
use Rattle.grid_keys.proofs.laws.the_least_shifts_are_determined.Goals as goal

pub returns-clause-one : goal.returns-clause-one
returns-clause-one c = least_form_exists

pub returns-clause-single : goal.returns-clause-single
returns-clause-single c = least_form_once
