use Rattle.grid_keys.proofs.CanonicalForms.{canonical_own, canonical_by_no_shift}
use Rattle.grid_keys.proofs.laws.a_canonical_form_is_its_own.Goals as goal

pub returns-clause-own : goal.returns-clause-own
returns-clause-own c = canonical_own

pub returns-clause-shifts : goal.returns-clause-shifts
returns-clause-shifts c = canonical_by_no_shift
