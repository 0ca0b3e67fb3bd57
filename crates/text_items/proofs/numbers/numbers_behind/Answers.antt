use Rattle.text_items.proofs.Cuts.{behind_good}
use Rattle.text_items.proofs.numbers.numbers_behind.Goals as goal

pub returns : goal.returns
returns c =
    behind_good c.in_ok-kept.kept c.args.expected.now c.args.line.now c.word.new.line c.in_ok-word.ensures c.in_ok-kept.ensures c.if-kept.false
    c.if-kept-2.false
