-- A count of the numbers below n that pass a test, one number more.
use Rattle.std.proofs.Common.{◌≡◌, ◌+◌, ◌∙◌, ℕ, Bool, cond, ap, arith}
use Rattle.std.specs.Prelude.{count_by}
use Rattle.std.specs.List.{range_with_len}
use Rattle.grid_core.proofs.Bottoms.{count_more}

-- by a test's answer
pub counted_by : (p : ℕ → Bool) (n so_far more : ℕ) (answer : Bool) → so_far ≡ count_by p (range_with_len 0 n) → more ≡ cond answer 1 0 → answer ≡ p n
    → so_far + more ≡ count_by p (range_with_len 0 (n + 1))
counted_by p n so_far more answer e one is =
    let step : more ≡ cond (p n) 1 0 = one ∙ ap (λ b. cond b 1 0) is in
    omega (arith, e, step, count_more p n)
