use Rattle.std.proofs.Common.{◌==◌, ◌∙◌, length, sym, ap, arith, below_more}
use Rattle.std.specs.Prelude.{slice_index}
use Rattle.std.proofs.lemmas.Bool.{eq-eqb, ne_eqb}
use Rattle.std.proofs.lemmas.List.Sums.{position_or_len_is}
use Rattle.code_rows.specs.Rows.{edge_number}
use Rattle.code_rows.proofs.Pairs.{beyond}
use Rattle.code_rows.proofs.numbers.name_of.Goals as goal

pub returns-then-edge_number-edge : goal.returns-then-edge_number-edge
returns-then-edge_number-edge c =
    let names = c.args.names.now in
    let i = c.loop-name.name-index in
    sym (ap (slice_index names) (position_or_len_is (λ m. edge_number names m == c.args.edge) names i 0 (omega arith) c.loop-name.invariant
    (λ lt. eq-eqb (edge_number names (slice_index names i)) c.args.edge (sym c.edge_number.ensures ∙ c.if-edge_number-edge.true))))

pub loop-name-preserved : goal.loop-name-preserved
loop-name-preserved c =
    let names = c.args.names.now in
    below_more _ _ c.loop-name.invariant
    (ne_eqb (edge_number names (slice_index names c.loop-name.name-index)) c.args.edge (λ e. c.if-edge_number-edge.false (c.edge_number.ensures ∙ e)))

pub returns : goal.returns
returns c =
    let names = c.args.names.now in
    sym (ap (slice_index names) (position_or_len_is (λ m. edge_number names m == c.args.edge) names (length names) 0 (omega arith)
    (λ k lt. c.loop-name.invariant k (omega (arith, lt))) (λ lt. absurd (omega (arith, lt)))) ∙ beyond names)
