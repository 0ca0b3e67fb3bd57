use Rattle.std.proofs.Common.{◌∙◌, ◌++◌, ◌∷◌, [], ℕ, List, ap₂, sym, arith}
use Rattle.std.proofs.lemmas.List.FromFn.{map-range_with_len_more}
use Rattle.grid_core.specs.declared.span.Span.{Span}
use Rattle.grid_core.proofs.Ends.{low, high}
use Rattle.colour_rows.proofs.spans.Spans.of.Goals as goal

pub push-requires : goal.push-requires
push-requires c = omega (arith, c.loop-column.invariant.2, c.loop-column-test.true, c.size-column-end.ensures.size, c.size-column-end.ensures.grid.most)

pub push-requires-in-loop-column : goal.push-requires-in-loop-column
push-requires-in-loop-column c =
    omega (arith, c.loop-column.invariant.3, c.loop-column-test.true, c.size-column-end.ensures.size, c.size-column-end.ensures.grid.most)

pub loop-column-preserved : goal.loop-column-preserved
loop-column-preserved c =
    let d = c.args.grid.now in
    let column = c.loop-column.column in (
      c.push.ensures.items
          ∙ (ap₂ (λ (rows : List ℕ) (s : Span). rows ++ s.low ∷ []) c.loop-column.invariant.0 c.column_span-span.ensures
          ∙ sym (map-range_with_len_more (low d) 0 column column (omega arith))),
      c.push-in-loop-column.ensures.items
          ∙ (ap₂ (λ (rows : List ℕ) (s : Span). rows ++ s.high ∷ []) c.loop-column.invariant.1 c.column_span-span.ensures
          ∙ sym (map-range_with_len_more (high d) 0 column column (omega arith))),
      omega (arith, c.push.ensures.len, c.loop-column.invariant.2),
      omega (arith, c.push-in-loop-column.ensures.len, c.loop-column.invariant.3),
    )

pub invariant_of-result : goal.invariant_of-result
invariant_of-result c = (
  c.loop-column.invariant.2 ∙ sym c.loop-column.invariant.3,
  omega (arith, c.loop-column.invariant.2, c.loop-column-test.false, c.size-column-end.ensures.size, c.size-column-end.ensures.grid.most),
)
