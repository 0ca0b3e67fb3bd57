use Rattle.std.proofs.Common.{◌≡◌, ◌++◌, map, take, drop}
use Rattle.grid_moves.specs.Exchange.{exchanged}
use Rattle.grid_moves.proofs.exchange.exchange_all.Given as goal

abbrev pub invariant-loop-place : goal.invariant-loop-place
invariant-loop-place l = l.rows ≡ map (exchanged l.r) (take l.place l.fn.rows) ++ drop l.place l.fn.rows
