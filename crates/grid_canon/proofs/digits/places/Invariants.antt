use Rattle.grid_canon.proofs.Placed.{ArePlaces}
use Rattle.grid_canon.proofs.digits.places.Given as goal

abbrev pub invariant-loop-place : goal.invariant-loop-place
invariant-loop-place l = ArePlaces l.size l.value l.places l.place
