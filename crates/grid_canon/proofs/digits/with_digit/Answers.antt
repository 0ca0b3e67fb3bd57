use Rattle.std.proofs.Common.{arith}
use Rattle.grid_canon.proofs.DigitLists.{inserted_word}
use Rattle.grid_canon.proofs.digits.with_digit.Goals as goal

pub overflow_add-result-2 : goal.overflow_add-result-2
overflow_add-result-2 c =
    let h = inserted_word c.args.value c.args.digit c.args.place c.args.size c.requires.place c.requires.most c.requires.value c.requires.digit in
    record { fits = omega (arith, h.0, h.1) }

pub returns : goal.returns
returns c = (inserted_word c.args.value c.args.digit c.args.place c.args.size c.requires.place c.requires.most c.requires.value c.requires.digit).0
