use Rattle.std.proofs.Common.{◌<◌, ◌≤◌, ◌∙◌, ℕ, length, arith, sym, ap, add-one, below_more}
use Rattle.std.specs.Prelude.{nat_le}
use Rattle.std.proofs.lemmas.Bool.{le-leb, lt-leb}
use Rattle.colour_rows.proofs.Ranges.{all_range, fails_range}
use Rattle.code_rows.specs.CodeMap.{around_face, next_in_face}
use Rattle.code_rows.proofs.code_map.is_least_of_face.Goals as goal

pub returns-then-around-dart : goal.returns-then-around-dart
returns-then-around-dart c =
    let ends = c.args.ends.now in
    let d = c.args.dart in
    let k = c.loop-done.done in
    let low : around_face ends k d < d = let e = c.loop-done.invariant.around in omega arith in
    sym (fails_range (λ j. nat_le d (around_face ends j d)) (length ends) k (omega arith) (lt-leb d (around_face ends k d) low))

pub loop-done-preserved : goal.loop-done-preserved
loop-done-preserved c =
    let ends = c.args.ends.now in
    let d = c.args.dart in
    let k = c.loop-done.done in
    let high : d ≤ around_face ends k d = let e = c.loop-done.invariant.around in omega arith in
    record {
      around = c.next_in_face-around.ensures.next
          ∙ (ap (next_in_face ends) c.loop-done.invariant.around ∙ ap (λ (n : ℕ). around_face ends n d) (sym (add-one k)));
      within = c.next_in_face-around.ensures.within;
      least = below_more _ _ c.loop-done.invariant.least (le-leb d (around_face ends k d) high);
    }

pub returns : goal.returns
returns c =
    let ends = c.args.ends.now in
    let d = c.args.dart in
    sym (all_range (λ j. nat_le d (around_face ends j d)) (length ends) (λ k lt. c.loop-done.invariant.least k (omega (arith, lt))))
