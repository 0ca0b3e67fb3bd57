use Rattle.search_book.proofs.Recorded.{history_after, problem_after}
use Rattle.book_laws.proofs.machine.each_event_is_put_behind_the_history.Goals as goal

pub returns-clause-history : goal.returns-clause-history
returns-clause-history c = history_after

pub returns-clause-problem : goal.returns-clause-problem
returns-clause-problem c = problem_after
