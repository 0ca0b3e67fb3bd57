use Rattle.std.proofs.Common.{◌≡◌, length, ap, arith}
use Rattle.table_check.specs.TableHolds.{PairHolds}
use Rattle.table_check.proofs.Below.{below_none, below_more, below_all}
use Rattle.table_check.proofs.pairs.same_as.Goals as goal

pub loop-second-init : goal.loop-second-init
loop-second-init c = below_none (PairHolds c.args.table.now c.args.first)

pub loop-second-preserved : goal.loop-second-preserved
loop-second-preserved c =
    below_more (PairHolds c.args.table.now c.args.first) c.loop-second.second c.loop-second.invariant (c.are_same.ensures.no c.if-are_same.false)

pub returns-clause-none : goal.returns-clause-none
returns-clause-none c = λ none.
    let long : length c.as_slice-second-end.result.now ≡ length c.args.table.now.classes = ap length c.as_slice-second-end.ensures in
    below_all (PairHolds c.args.table.now c.args.first) c.loop-second.second (length c.args.table.now.classes) (omega (arith, long)) c.loop-second.invariant
