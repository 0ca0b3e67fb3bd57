use Rattle.std.proofs.Common.{◌∙◌, ℕ, Option, arith, sym, ap, below_more}
use Rattle.std.specs.Prelude.{unwrap_or}
use Rattle.grid_core.proofs.Accepted.{lowest_some, lowest_none}
use Rattle.code_rows.specs.CodeMap.{darts, is_other_end}
use Rattle.code_rows.proofs.code_map.twin.Goals as goal

pub returns-then-is_other_end-clause-twin : goal.returns-then-is_other_end-clause-twin
returns-then-is_other_end-clause-twin c =
    ap (λ (o : Option ℕ). unwrap_or o 0) (sym (lowest_some (is_other_end c.args.crossings.now c.args.dart) (darts c.args.crossings.now)
    c.loop-other.other (omega arith) c.loop-other.invariant (sym c.is_other_end.ensures ∙ c.if-is_other_end.true)))

pub loop-other-preserved : goal.loop-other-preserved
loop-other-preserved c = below_more _ _ c.loop-other.invariant (sym c.is_other_end.ensures ∙ c.if-is_other_end.false)

pub returns-clause-twin : goal.returns-clause-twin
returns-clause-twin c =
    ap (λ (o : Option ℕ). unwrap_or o 0) (sym (lowest_none (is_other_end c.args.crossings.now c.args.dart) (darts c.args.crossings.now)
    (λ k lt. c.loop-other.invariant k (omega (arith, lt)))))
