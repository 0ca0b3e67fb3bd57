use Rattle.search_book.proofs.EndedBooks.{exhausted}
use Rattle.book_laws.proofs.ended.an_exhausted_book_has_all_that_is_reached.Goals as goal

pub returns-clause-members : goal.returns-clause-members
returns-clause-members c = λ s sound over. (exhausted s sound over).members

pub returns-clause-entries : goal.returns-clause-entries
returns-clause-entries c = λ s d sound over. (exhausted s sound over).entries d

pub returns-clause-apart : goal.returns-clause-apart
returns-clause-apart c = λ s sound over. (exhausted s sound over).apart
