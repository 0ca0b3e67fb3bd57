use Rattle.std.proofs.Common.{not, count_by}
use Rattle.quandle_core.specs.declared.operations.TheConstants.{MAX_LARGE_ORDER}
use Rattle.colour_seeds.proofs.Connections.{IsReached}
use Rattle.colour_seeds.proofs.connected.is_connected.Given as goal

abbrev pub invariant-loop-colour : goal.invariant-loop-colour
invariant-loop-colour l = IsReached l.quandle MAX_LARGE_ORDER l.reached

abbrev pub decreases-loop-colour : goal.decreases-loop-colour
decreases-loop-colour l = count_by not l.reached
