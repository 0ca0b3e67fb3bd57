use Rattle.std.proofs.Common.{◌+◌, ◌∙◌, not, arith, sym, ap, below_more}
use Rattle.grid_core.proofs.Accepted.{lowest_some, lowest_none}
use Rattle.code_rows.specs.JoinedEdges.{is_joined}
use Rattle.code_rows.proofs.joined_edges.lowest_unjoined.Goals as goal

pub returns-then-not-is_joined-clause-lowest : goal.returns-then-not-is_joined-clause-lowest
returns-then-not-is_joined-clause-lowest c =
    sym (lowest_some (λ k. not (is_joined c.args.crossings.now (k + 1))) c.args.edges c.loop-e.e (omega arith) c.loop-e.invariant
    (ap not (sym c.is_joined.ensures ∙ c.if-not-is_joined.true)))

pub loop-e-preserved : goal.loop-e-preserved
loop-e-preserved c = below_more _ _ c.loop-e.invariant (ap not (sym c.is_joined.ensures ∙ c.if-not-is_joined.false))

pub returns-clause-lowest : goal.returns-clause-lowest
returns-clause-lowest c =
    sym (lowest_none (λ k. not (is_joined c.args.crossings.now (k + 1))) c.args.edges (λ k lt. c.loop-e.invariant k (omega (arith, lt))))
