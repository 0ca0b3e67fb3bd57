use Rattle.search_book.proofs.EndedBooks.{end_shows}
use Rattle.search_pool.proofs.finding.Finding.of.Goals as goal

pub returns-clause-shows : goal.returns-clause-shows
returns-clause-shows c = λ end over. end_shows c.args.book end c.settles-settled.ensures.sound over
