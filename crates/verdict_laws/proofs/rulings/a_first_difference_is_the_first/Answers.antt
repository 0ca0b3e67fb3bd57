use Rattle.std.proofs.Common.{ap, ◌∙◌}
use Rattle.cert_check.specs.Cause.{first_difference}
use Rattle.cert_check.proofs.FirstDifference.{none_of_equal, equal_of_none, differ_of_some, some_of_differ}
use Rattle.verdict_laws.proofs.rulings.a_first_difference_is_the_first.Goals as goal

pub returns-clause-equal : goal.returns-clause-equal
returns-clause-equal c = λ one two. (equal_of_none one two, (λ same. ap (λ z. first_difference z two) same ∙ none_of_equal two))

pub returns-clause-place : goal.returns-clause-place
returns-clause-place c = λ one two place. (
  (λ some. ((differ_of_some one two place some).before, (differ_of_some one two place some).here)),
  (λ differ. some_of_differ one two place differ.0 differ.1),
)
