use Rattle.std.proofs.Common.{◌≡◌, ◌≤◌, map, take, length, unwrap_or}
use Rattle.grid_core.specs.declared.grid.TheConstants.{MAX_SIZE}
use Rattle.braid_closure.specs.declared.columns.Column.{Column}
use Rattle.braid_closure.proofs.closure.grid_of.Given as goal

abbrev pub invariant-loop-column : goal.invariant-loop-column
invariant-loop-column l = (l.x.items ≡ map (λ (c : Column). c.x) (take l.column-index l.column-items))
    × (l.o.items ≡ map (λ (c : Column). unwrap_or c.o 0) (take l.column-index l.column-items))
    × (length l.column-items ≤ MAX_SIZE)
