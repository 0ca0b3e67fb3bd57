use Rattle.std.proofs.Common.{◌≡◌}
use Rattle.search_pool.proofs.hand.Hand.look.Given as goal

abbrev pub invariant-loop-place : goal.invariant-loop-place
invariant-loop-place l = l.place-items ≡ l.fn.self.others
