use Rattle.braid_core.specs.Fault.{first_word_fault}
use Rattle.text_laws.specs.WordFaults.{IsWordFault, word_rank, word_number}
use Rattle.text_laws.proofs.Firsts.{found_exactly}
use Rattle.text_laws.proofs.Words.{word_first, word_holds, same_word_fault}
use Rattle.text_laws.proofs.first_faults.the_first_fault_of_a_word_comes_first.Goals as goal

pub returns : goal.returns
returns c = λ b fault.
    found_exactly (IsWordFault b) word_rank word_number (first_word_fault b) (word_first b) (word_holds b) same_word_fault fault
