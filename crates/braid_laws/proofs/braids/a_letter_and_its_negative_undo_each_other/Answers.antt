use Rattle.braid_laws.proofs.Letters.{letter_negated, letter_undone}
use Rattle.braid_laws.proofs.braids.a_letter_and_its_negative_undo_each_other.Goals as goal

pub returns-clause-letter : goal.returns-clause-letter
returns-clause-letter c = letter_negated

pub returns-clause-undone : goal.returns-clause-undone
returns-clause-undone c = letter_undone
