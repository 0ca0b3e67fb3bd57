use Rattle.std.proofs.Common.{◌≡◌, drop}
use Rattle.braid_moves.specs.Ruling.{ruled, ruling}
use Rattle.braid_moves.proofs.ruling.check_braids.Given as goal

abbrev pub invariant-loop-place : goal.invariant-loop-place
invariant-loop-place l = ruled l.braid l.second l.place (drop l.place l.steps) ≡ ruling l.first l.second l.steps
