use Rattle.std.proofs.Common.{◌≡◌, ◌+◌, ◌∷◌, ◌++◌, ◌∙◌, [], List, ℕ, ap, sym, length}
use Rattle.std.specs.List.{range_with_len}
use Rattle.std.proofs.lemmas.List.FromFn.{length-range_with_len}
use Rattle.linking_core.proofs.components.each_by_itself.Goals as goal
use Rattle.grid_core.proofs.OneEach.{range_next}

pub loop-c-preserved : goal.loop-c-preserved
loop-c-preserved c =
    let n = c.loop-c.c in
    let all : c.push.new.self.items ≡ range_with_len 0 (n + 1) =
    c.push.ensures.items ∙ (ap (λ (xs : List ℕ). xs ++ n ∷ []) c.loop-c.invariant.0 ∙ sym (range_next n)) in
    (all, ap length all ∙ length-range_with_len 0 (n + 1))
