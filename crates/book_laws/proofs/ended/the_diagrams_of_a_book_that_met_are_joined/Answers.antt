use Rattle.search_book.proofs.EndedBooks.{met_joined}
use Rattle.book_laws.proofs.ended.the_diagrams_of_a_book_that_met_are_joined.Goals as goal

pub returns : goal.returns
returns c = λ s meeting sound. met_joined s sound meeting
