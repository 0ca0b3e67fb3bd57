use Rattle.search_book.proofs.ReachedEntries.{entered_reached, entries_le}
use Rattle.book_laws.proofs.ended.every_entry_is_reached.Goals as goal

pub returns-clause-entry : goal.returns-clause-entry
returns-clause-entry c = λ s d sound. entered_reached s sound d

pub returns-clause-count : goal.returns-clause-count
returns-clause-count c = λ s k sound. entries_le s sound k
