use Rattle.std.proofs.Common.{◌≡◌, ◌++◌, ◌-◌, ℕ, map, true}
use Rattle.grid_core.specs.Parts.{covers, ends}
use Rattle.crossing_codes.specs.Code.{crossing}
use Rattle.crossing_codes.proofs.Crossings.{cell}
use Rattle.crossing_codes.proofs.FollowSteps.{met}
use Rattle.crossing_codes.proofs.code.push_crossings.Given as goal

abbrev pub invariant-loop-column : goal.invariant-loop-column
invariant-loop-column l =
    l.out.items ≡ l.fn.out.items ++ map (λ (c : ℕ). crossing l.layout (cell c l.row))
    (met true (λ c. covers l.layout c l.row) (ends l.layout l.row) (l.column - (ends l.layout l.row).low - 1))
