use Rattle.std.proofs.Common.{◌<◌, ◌≤◌, ◌-◌, length}
use Rattle.mono_simplify.specs.Listing.{IsListed}
use Rattle.mono_simplify.specs.Ways.{keys_in, AreLinked}
use Rattle.mono_simplify.proofs.listing.list_class.Given as goal

abbrev pub invariant-loop-place : goal.invariant-loop-place
invariant-loop-place l =
    (l.place ≤ length l.class) × (length l.class ≤ l.budget) × (0 < length l.class) × IsListed l.grid l.place (keys_in l.class) × AreLinked l.grid l.class

abbrev pub decreases-loop-place : goal.decreases-loop-place
decreases-loop-place l = l.budget - l.place
