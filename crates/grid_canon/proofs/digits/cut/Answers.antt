use Rattle.std.proofs.Common.{arith}
use Rattle.grid_canon.proofs.DigitLists.{cut_word}
use Rattle.grid_canon.proofs.digits.cut.Goals as goal

pub overflow_add-result : goal.overflow_add-result
overflow_add-result c =
    let h = cut_word c.args.value c.args.place c.args.size c.requires.place c.requires.most c.requires.value in
    record { fits = omega (arith, h.0, h.1) }

pub returns : goal.returns
returns c = (cut_word c.args.value c.args.place c.args.size c.requires.place c.requires.most c.requires.value).0
