use Rattle.grid_canon.proofs.DigitLists.{removed_word}
use Rattle.grid_canon.proofs.digits.without_digit.Goals as goal

pub returns : goal.returns
returns c = (removed_word c.args.value c.args.place c.args.size c.requires.place c.requires.most c.requires.value).0
