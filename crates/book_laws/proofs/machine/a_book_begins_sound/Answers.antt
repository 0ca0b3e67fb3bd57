use Rattle.search_book.proofs.BeginSound.{begins_sound}
use Rattle.book_laws.proofs.machine.a_book_begins_sound.Goals as goal

pub returns : goal.returns
returns c = begins_sound
