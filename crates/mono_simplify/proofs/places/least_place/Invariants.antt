use Rattle.std.proofs.Common.{◌<◌, length, take}
use Rattle.mono_simplify.specs.Ways.{keys_in}
use Rattle.mono_simplify.specs.Seen.{IsLeastAt}
use Rattle.mono_simplify.proofs.places.least_place.Given as goal

abbrev pub invariant-loop-place : goal.invariant-loop-place
invariant-loop-place l = (l.best < length l.class) × IsLeastAt (take l.place (keys_in l.class)) (keys_in l.class) l.best
