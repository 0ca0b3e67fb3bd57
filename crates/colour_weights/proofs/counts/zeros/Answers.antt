use Rattle.std.proofs.Common.{◌∙◌, ◌+◌, ◌++◌, ◌∷◌, [], map, ap, sym, ℕ}
use Rattle.std.specs.List.{range_with_len}
use Rattle.std.proofs.lemmas.List.{map-append}
use Rattle.colour_rows.proofs.Ranges.{range_longer}
use Rattle.colour_weights.proofs.counts.zeros.Goals as goal

pub loop-count-preserved : goal.loop-count-preserved
loop-count-preserved c =
    let n : ℕ = c.loop-count._count in
    c.in_ok-push.ensures.items ∙ (ap (λ l. l ++ 0 ∷ []) c.loop-count.invariant
    ∙ sym (ap (map (λ v. 0)) (range_longer 0 n) ∙ map-append (λ v. 0) (range_with_len 0 n) ((0 + n) ∷ [])))
