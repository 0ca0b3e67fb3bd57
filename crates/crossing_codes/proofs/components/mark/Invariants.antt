use Rattle.std.proofs.Common.{◌≡◌, ◌<◌, ℕ, get_or, length, take, ◌||◌, ◌==◌, false}
use Rattle.std.specs.List.{list_any}
use Rattle.crossing_codes.proofs.components.mark.Given as goal

abbrev pub invariant-loop-column : goal.invariant-loop-column
invariant-loop-column l =
    (k : ℕ) → k < length l.fn.seen → get_or l.seen k false ≡ (get_or l.fn.seen k false || list_any (λ b. b == k) (take l.column-index l.columns))
