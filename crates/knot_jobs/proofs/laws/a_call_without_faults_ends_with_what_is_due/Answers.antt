use Rattle.knot_jobs.proofs.Endings.{ends_with_answer, ends_with_usage}
use Rattle.knot_jobs.proofs.laws.a_call_without_faults_ends_with_what_is_due.Goals as goal

pub returns-clause-answer : goal.returns-clause-answer
returns-clause-answer c = ends_with_answer

pub returns-clause-usage : goal.returns-clause-usage
returns-clause-usage c = ends_with_usage
