use Rattle.search_book.proofs.EndedBooks.{more_reached}
use Rattle.book_laws.proofs.ended.more_than_the_budget_of_a_spent_book_is_reached.Goals as goal

pub returns : goal.returns
returns c = λ s refused sound. more_reached s sound refused
