use Rattle.std.proofs.Common.{◌≡◌, ◌++◌, take}
use Rattle.std.specs.List.{flat_map}
use Rattle.crossing_codes.specs.Passages.{along}
use Rattle.crossing_codes.proofs.passages.push_round.Given as goal

abbrev pub invariant-loop-column : goal.invariant-loop-column
invariant-loop-column l = l.out.items ≡ l.fn.out.items ++ flat_map (along l.layout) (take l.column-index l.column-items)
