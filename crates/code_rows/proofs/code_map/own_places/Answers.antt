use Rattle.std.proofs.Common.{◌≡◌, ◌+◌, ◌∷◌, ◌++◌, ◌∙◌, [], List, ℕ, ap, sym, length}
use Rattle.std.specs.List.{range_with_len}
use Rattle.std.proofs.lemmas.List.FromFn.{length-range_with_len}
use Rattle.grid_core.proofs.OneEach.{range_next}
use Rattle.code_rows.proofs.code_map.own_places.Goals as goal

pub loop-k-preserved : goal.loop-k-preserved
loop-k-preserved c =
    let n = c.loop-k.k in
    let all : c.push.new.self.items ≡ range_with_len 0 (n + 1) =
    c.in_ok-push.ensures.items ∙ (ap (λ (xs : List ℕ). xs ++ n ∷ []) c.loop-k.invariant.0 ∙ sym (range_next n)) in
    (all, ap length all ∙ length-range_with_len 0 (n + 1))
