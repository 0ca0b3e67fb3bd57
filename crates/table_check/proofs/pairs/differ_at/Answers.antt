use Rattle.std.proofs.Common.{◌∙◌, sym}
use Rattle.table_check.specs.TableHolds.{numbers_at}
use Rattle.table_check.proofs.Causes.{differ_yes, differ_no}
use Rattle.table_check.proofs.pairs.differ_at.Goals as goal

pub returns-in-Some-Some-clause-yes : goal.returns-in-Some-Some-clause-yes
returns-in-Some-Some-clause-yes c = λ is.
    differ_yes (numbers_at c.args.one.now c.args.at) (numbers_at c.args.two.now c.args.at) c.in-Some-Some.first.now c.in-Some-Some.second.now
    c.first_unequal.result c.in-Some-Some.ensures.some c.in-Some-Some.ensures'.some c.first_unequal.ensures (sym c.is_some.ensures ∙ is)

pub returns-in-Some-Some-clause-no : goal.returns-in-Some-Some-clause-no
returns-in-Some-Some-clause-no c = λ is.
    differ_no (numbers_at c.args.one.now c.args.at) (numbers_at c.args.two.now c.args.at) c.in-Some-Some.first.now c.in-Some-Some.second.now
    c.first_unequal.result c.in-Some-Some.ensures.some c.in-Some-Some.ensures'.some c.first_unequal.ensures (sym c.is_some.ensures ∙ is)
