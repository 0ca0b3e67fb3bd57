use Rattle.seek_words.specs.Matched.{AreGivenNumbers}
use Rattle.seek_words.specs.declared.asked.Numbers.{Numbers}
use Rattle.seek_words.proofs.Numbers.{none_found}
use Rattle.seek_words.proofs.asked.numbers_of.Goals as goal

pub returns-in_err-long_number : goal.returns-in_err-long_number
returns-in_err-long_number c = none_found c.args.matches.now _ c.from_residual.ensures
    (λ (n : Numbers) (are : AreGivenNumbers c.args.matches.now n). c.in_err-long_number.ensures n.seed are.seed)

pub returns-in_err-long_number-2 : goal.returns-in_err-long_number-2
returns-in_err-long_number-2 c = none_found c.args.matches.now _ c.from_residual-in_err-long_number-2.ensures
    (λ (n : Numbers) (are : AreGivenNumbers c.args.matches.now n). c.in_err-long_number-2.ensures n.steps are.steps)

pub returns-in_err-number : goal.returns-in_err-number
returns-in_err-number c = none_found c.args.matches.now _ c.from_residual-in_err-number.ensures
    (λ (n : Numbers) (are : AreGivenNumbers c.args.matches.now n). c.in_err-number.ensures n.room are.room)

pub returns-in_err-number-2 : goal.returns-in_err-number-2
returns-in_err-number-2 c = none_found c.args.matches.now _ c.from_residual-in_err-number-2.ensures
    (λ (n : Numbers) (are : AreGivenNumbers c.args.matches.now n). c.in_err-number-2.ensures n.workers are.workers)
