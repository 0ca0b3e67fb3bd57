use Rattle.std.proofs.Common.{◌∙◌, ◌++◌, ◌∷◌, [], ℕ, List, length, arith, sym, ap, ap₂}
use Rattle.std.proofs.lemmas.List.FromFn.{length-map-range_with_len, map-range_with_len_more}
use Rattle.grid_core.specs.declared.span.Span.{Span}
use Rattle.grid_core.specs.Parts.{column_span}
use Rattle.next_moves.proofs.spans.Spans.of_columns.Goals as goal

pub push-requires-clause-lows : goal.push-requires-clause-lows
push-requires-clause-lows c =
    let long = ap length c.loop-c.invariant.lows in
    let as_many = length-map-range_with_len (λ k. (column_span c.args.grid.now k).low) 0 c.loop-c.c in
    omega (arith, long, as_many, c.size-c-end.ensures.size, c.size-c-end.ensures.grid.most)

pub push-requires-clause-highs : goal.push-requires-clause-highs
push-requires-clause-highs c =
    let long = ap length c.loop-c.invariant.highs in
    let as_many = length-map-range_with_len (λ k. (column_span c.args.grid.now k).high) 0 c.loop-c.c in
    omega (arith, long, as_many, c.size-c-end.ensures.size, c.size-c-end.ensures.grid.most)

pub loop-c-preserved : goal.loop-c-preserved
loop-c-preserved c =
    let d = c.args.grid.now in
    let n = c.loop-c.c in
    record {
      lows =
          c.push.ensures.lows
          ∙ ap₂ (λ (us : List ℕ) (y : ℕ). us ++ y ∷ []) c.loop-c.invariant.lows (ap (λ (s : Span). s.low) c.column_span.ensures)
          ∙ sym (map-range_with_len_more (λ k. (column_span d k).low) 0 n n (omega arith));
      highs =
          c.push.ensures.highs
          ∙ ap₂ (λ (us : List ℕ) (y : ℕ). us ++ y ∷ []) c.loop-c.invariant.highs (ap (λ (s : Span). s.high) c.column_span.ensures)
          ∙ sym (map-range_with_len_more (λ k. (column_span d k).high) 0 n n (omega arith));
    }
