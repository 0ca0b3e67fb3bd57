use Rattle.search_book.proofs.EndedBooks.{end_shows}
use Rattle.book_laws.proofs.ended.an_end_shows_what_is_reached.Goals as goal

pub returns : goal.returns
returns c = end_shows
