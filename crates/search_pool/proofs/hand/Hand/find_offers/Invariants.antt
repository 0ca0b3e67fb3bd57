use Rattle.std.proofs.Common.{◌≡◌}
use Rattle.search_pool.proofs.hand.Hand.find_offers.Given as goal

abbrev pub invariant-loop-place : goal.invariant-loop-place
invariant-loop-place g l = l.place-items ≡ l.fn.self.others
