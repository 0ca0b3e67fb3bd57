use Rattle.std.proofs.Common.{◌==◌, ℕ, get_or, arith, refl}
use Rattle.code_rows.proofs.Counted.{counted_by}
use Rattle.code_rows.proofs.code_map.count_own.Goals as goal

pub loop-k-preserved : goal.loop-k-preserved
loop-k-preserved c =
    let k = c.loop-k.k in
    let numbers = c.args.numbers.now in (
      counted_by (λ (j : ℕ). get_or numbers j 0 == j) k c.loop-k.count c.one_if-count.result (get_or numbers k 0 == k)
          c.loop-k.invariant.0 c.one_if-count.ensures.one refl,
      omega (arith, c.loop-k.invariant.1, c.one_if-count.ensures.most),
    )
