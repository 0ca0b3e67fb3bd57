use Rattle.std.proofs.Common.{◌≡◌, ◌++◌, take}
use Rattle.std.specs.Prelude.{codes}
use Rattle.std.specs.List.{flat_map}
use Rattle.crossing_codes.specs.Printed.{passage_token}
use Rattle.crossing_codes.proofs.printed.push_gauss_line.Given as goal

abbrev pub invariant-loop-passage : goal.invariant-loop-passage
invariant-loop-passage l =
    l.out.items ≡ (l.fn.out.items ++ codes "gauss") ++ flat_map (λ p. codes " " ++ passage_token l.layout p) (take l.passage-index l.round)
