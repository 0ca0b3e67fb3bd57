use Rattle.mono_simplify.proofs.LeastClass.{class_counted, class_larger, not_counted}
use Rattle.mono_simplify.proofs.least_laws.the_ends_count_the_class.Goals as goal

pub returns-clause-whole : goal.returns-clause-whole
returns-clause-whole c = class_counted

pub returns-clause-spent : goal.returns-clause-spent
returns-clause-spent c = class_larger

pub returns-clause-apart : goal.returns-clause-apart
returns-clause-apart c = not_counted
