use Rattle.std.proofs.Common.{◌∙◌, not, length, get_or, arith, sym, ap, below_more}
use Rattle.crossing_codes.specs.CodeColouring.{names_edges}
use Rattle.grid_core.proofs.Accepted.{lowest_some, lowest_none}
use Rattle.code_rows.specs.CodeMap.{no_crossing}
use Rattle.code_rows.proofs.code_fault.lowest_unnamed.Goals as goal

pub returns-then-not-names_edges : goal.returns-then-not-names_edges
returns-then-not-names_edges c =
    sym (lowest_some (λ k. not (names_edges c.args.edges (get_or c.args.crossings.now k no_crossing))) (length c.args.crossings.now)
    c.loop-k.k (omega arith) c.loop-k.invariant (ap not (sym c.names_edges.ensures ∙ c.if-not-names_edges.true)))

pub loop-k-preserved : goal.loop-k-preserved
loop-k-preserved c = below_more _ _ c.loop-k.invariant (ap not (sym c.names_edges.ensures ∙ c.if-not-names_edges.false))

pub returns : goal.returns
returns c =
    sym (lowest_none (λ k. not (names_edges c.args.edges (get_or c.args.crossings.now k no_crossing))) (length c.args.crossings.now)
    (λ k lt. c.loop-k.invariant k (omega (arith, lt))))
