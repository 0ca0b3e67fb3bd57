use Rattle.text_laws.proofs.PrintedTexts.{problem_printed, check_printed}
use Rattle.text_laws.proofs.laws.a_printed_problem_is_read.Goals as goal

pub returns-clause-problem : goal.returns-clause-problem
returns-clause-problem c = problem_printed

pub returns-clause-check : goal.returns-clause-check
returns-clause-check c = check_printed
