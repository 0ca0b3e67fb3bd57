use Rattle.std.proofs.Common.{◌≡◌, ◌≤◌, length, take}
use Rattle.next_moves.specs.Offers.{exchanges_among}
use Rattle.mono_simplify.specs.Listing.{with_keys}
use Rattle.mono_simplify.specs.Ways.{keys_in, Admits}
use Rattle.mono_simplify.proofs.explore.admit_all.Given as goal

abbrev pub invariant-loop-offer : goal.invariant-loop-offer
invariant-loop-offer l =
    (keys_in l.class ≡ with_keys (keys_in l.fn.class) (exchanges_among (take l.offer-index l.offers))) × (length l.class ≤ l.budget) × Admits l.place
    (exchanges_among l.offers) l.fn.class l.class
