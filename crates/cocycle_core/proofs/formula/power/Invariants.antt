use Rattle.std.proofs.Common.{◌≡◌, ◌<◌, ◌^◌, ◌%◌}
use Rattle.cocycle_core.proofs.formula.power.Given as goal

abbrev pub invariant-loop : goal.invariant-loop
invariant-loop l = record { power : l.product ≡ l.base ^ l.counter % l.k; below : l.product < l.k }
