use Rattle.grid_keys.proofs.CanonicalForms.{canonical_exists, canonical_once, canonical_grid}
use Rattle.grid_keys.proofs.laws.a_grid_has_one_canonical_form.Goals as goal

pub returns-clause-one : goal.returns-clause-one
returns-clause-one c = canonical_exists

pub returns-clause-single : goal.returns-clause-single
returns-clause-single c = canonical_once

pub returns-clause-grid : goal.returns-clause-grid
returns-clause-grid c = canonical_grid
