use Rattle.std.proofs.Common.{◌≡◌, ◌++◌, take, length}
use Rattle.std.specs.Prelude.{codes, decimal}
use Rattle.std.specs.List.{flat_map}
use Rattle.crossing_codes.specs.Printed.{crossing_line}
use Rattle.crossing_codes.proofs.printed.pd_text.Given as goal

abbrev pub invariant-loop-crossing : goal.invariant-loop-crossing
invariant-loop-crossing l =
    l.out.items ≡ (codes "crossings " ++ (decimal (length l.crossings) ++ codes "\n")) ++ flat_map crossing_line (take l.crossing-index l.crossings)
