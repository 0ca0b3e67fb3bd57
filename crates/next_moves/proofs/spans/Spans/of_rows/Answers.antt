use Rattle.std.proofs.Common.{◌≡◌, ◌<◌, ◌∙◌, ◌++◌, ◌∷◌, [], ℕ, List, length, arith, sym, ap, ap₂}
use Rattle.std.proofs.lemmas.List.FromFn.{length-map-range_with_len, map-range_with_len_more}
use Rattle.grid_core.specs.declared.span.Span.{Span}
use Rattle.grid_core.specs.Diagram.{size}
use Rattle.grid_core.specs.Span.{span}
use Rattle.grid_core.specs.Parts.{ends}
use Rattle.next_moves.proofs.spans.Spans.of_rows.Goals as goal

pub push-requires-clause-lows : goal.push-requires-clause-lows
push-requires-clause-lows c =
    let long = ap length c.loop-r.invariant.lows in
    omega (arith, long, length-map-range_with_len (λ k. (ends c.args.grid.now k).low) 0 c.loop-r.r, c.size-r-end.ensures.size, c.size-r-end.ensures.grid.most)

pub push-requires-clause-highs : goal.push-requires-clause-highs
push-requires-clause-highs c =
    let long = ap length c.loop-r.invariant.highs in
    omega (arith, long, length-map-range_with_len (λ k. (ends c.args.grid.now k).high) 0 c.loop-r.r, c.size-r-end.ensures.size, c.size-r-end.ensures.grid.most)

pub loop-r-preserved : goal.loop-r-preserved
loop-r-preserved c =
    let d = c.args.grid.now in
    let n = c.loop-r.r in
    let inside : n < size d = omega (arith, c.size-r-end.ensures.size) in
    let is : c.between.result ≡ ends d n =
    c.between.ensures ∙ ap₂ (λ (a b : ℕ). span a b) (c.columns_by_row-crosses.ensures n inside) (c.columns_by_row-rings.ensures n inside) in
    record {
      lows =
          c.push.ensures.lows
          ∙ ap₂ (λ (us : List ℕ) (y : ℕ). us ++ y ∷ []) c.loop-r.invariant.lows (ap (λ (s : Span). s.low) is)
          ∙ sym (map-range_with_len_more (λ k. (ends d k).low) 0 n n (omega arith));
      highs =
          c.push.ensures.highs
          ∙ ap₂ (λ (us : List ℕ) (y : ℕ). us ++ y ∷ []) c.loop-r.invariant.highs (ap (λ (s : Span). s.high) is)
          ∙ sym (map-range_with_len_more (λ k. (ends d k).high) 0 n n (omega arith));
    }
