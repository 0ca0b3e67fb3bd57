-- The exit status of a program to which the system gives no words.
use Rattle.std.specs.Prelude.{ℕ}
use Rattle.knot_ports.specs.declared.status.Status.TheVariants as status
use Rattle.knot_ports.specs.Status.{status_number}
use Rattle.knot_ports.specs.declared.given.NoWords.{NoWords}
use Rattle.knot_ports.specs.declared.given.NoWords.TheVariants.{Memory, Refused}
use Rattle.knot_ports.specs.declared.given.TheConstants.{NO_WORDS}

-- that of want of memory, or one of its own
abbrev pub status_without_words : NoWords → ℕ
status_without_words Memory = status_number status.OutOfMemory
status_without_words (Refused error) = NO_WORDS
