use Rattle.std.proofs.Common.{◌≡◌, ◌<◌, ◌∙◌, ◌==◌, ◌||◌, ◌++◌, ◌∷◌, [], ℕ, List, true, false, get_or, length, refl, sym, ap, subst, arith}
use Rattle.std.specs.List.{All, list_any, flat_map}
use Rattle.std.proofs.lemmas.List.{get_or-replicate}
use Rattle.std.proofs.lemmas.List.Elements.{All-push}
use Rattle.grid_core.specs.declared.grid.TheConstants.{MAX_SIZE}
use Rattle.grid_core.specs.Diagram.{size}
use Rattle.crossing_codes.specs.Components.{component}
use Rattle.crossing_codes.proofs.StartSteps.{reached, start_found, reached_more, start_passed}
use Rattle.crossing_codes.proofs.components.starts.Goals as goal
use Rattle.crossing_codes.proofs.components.starts.Goals.{then-not-seen-column, else-not-seen-column}

pub loop-column-init : goal.loop-column-init
loop-column-init c =
    let none : length c.new-starts.result.items ≡ 0 = ap length c.new-starts.ensures in
    let most = c.size-column-end.ensures.grid.most in
    record {
      starts = c.new-starts.ensures;
      inside = λ k d lt. absurd (omega (arith, lt, none));
      long = refl;
      few = omega (arith, none);
      seen = λ k within. get_or-replicate MAX_SIZE k false false (omega (arith, within, most));
    }

pub loop-column-preserved : goal.loop-column-preserved
loop-column-preserved c =
    let d = c.args.layout.now in
    let i = c.loop-column.column in
    let before = c.loop-column.invariant in
    let grid = c.size-column-end.ensures.grid in
    let lt : i < size d = omega arith in
    let long = before.long in
    let same : (k : ℕ) → k < size d → get_or c.loop-column.seen k false ≡ list_any (λ b. b == k) (reached d i) = before.seen in
    elim c.if-not-seen-column.branch [
      | then-not-seen-column w ↦
          let none : list_any (λ b. b == i) (reached d i) ≡ false = sym (same i lt) ∙ w.if-not-seen-column.true in
          let columns : w.as_slice.result.now ≡ component d i = w.as_slice.ensures.value ∙ w.component.ensures.columns in
          rw (w.starts-is, w.seen-is) (record {
            starts = w.push.ensures.items ∙ (ap (λ (ss : List ℕ). ss ++ i ∷ []) before.starts ∙ sym (start_found d grid i lt none));
            inside = subst (All (λ k. k < size d)) (sym w.push.ensures.items) (All-push (λ k. k < size d) c.loop-column.starts.items i before.inside lt);
            long = w.mark.auto.seen ∙ before.long;
            few = let n = w.push.ensures.len in let f = before.few in omega arith;
            seen = λ k within.
                w.mark.ensures k (let g = grid.most in omega arith)
                ∙ (ap (λ b. b || list_any (λ a. a == k) w.as_slice.result.now) (same k within)
                ∙ (ap (λ (xs : List ℕ). list_any (λ a. a == k) (reached d i) || list_any (λ a. a == k) xs) columns ∙ sym (reached_more d grid i lt none k)));
          })
      | else-not-seen-column w ↦
          let was : list_any (λ b. b == i) (reached d i) ≡ true = sym (same i lt) ∙ w.if-not-seen-column.false in
          let stays = start_passed d grid i lt was in
          rw (w.starts-is, w.seen-is) (record {
            starts = before.starts ∙ sym stays;
            inside = before.inside;
            long = before.long;
            few = let f = before.few in omega arith;
            seen = λ k within. same k within ∙ ap (λ (ss : List ℕ). list_any (λ b. b == k) (flat_map (component d) ss)) (sym stays);
          })
    ]
