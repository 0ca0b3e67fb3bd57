use Rattle.std.proofs.Common.{◌≡◌, length, ap, arith}
use Rattle.table_check.specs.TableHolds.{PairsWith}
use Rattle.table_check.proofs.Below.{below_none, below_more, below_all}
use Rattle.table_check.proofs.pairs.pairs_cause.Goals as goal

pub loop-first-init : goal.loop-first-init
loop-first-init c = below_none (λ first. PairsWith c.args.table.now first (length c.args.table.now.classes))

pub loop-first-preserved : goal.loop-first-preserved
loop-first-preserved c =
    below_more (λ first. PairsWith c.args.table.now first (length c.args.table.now.classes)) c.loop-first.first c.loop-first.invariant
    (c.same_as.ensures.none c.in_default.is)

pub returns-clause-none : goal.returns-clause-none
returns-clause-none c = λ none.
    let long : length c.as_slice-first-end.result.now ≡ length c.args.table.now.classes = ap length c.as_slice-first-end.ensures in
    below_all (λ first. PairsWith c.args.table.now first (length c.args.table.now.classes)) c.loop-first.first (length c.args.table.now.classes)
    (omega (arith, long)) c.loop-first.invariant
