use Rattle.grid_keys.proofs.CanonicalForms.{translate_itself, translated_back, translated_twice}
use Rattle.grid_keys.proofs.laws.to_be_a_translate_is_an_equivalence_relation.Goals as goal

pub returns-clause-reflexive : goal.returns-clause-reflexive
returns-clause-reflexive c = translate_itself

pub returns-clause-symmetric : goal.returns-clause-symmetric
returns-clause-symmetric c = translated_back

pub returns-clause-transitive : goal.returns-clause-transitive
returns-clause-transitive c = translated_twice
