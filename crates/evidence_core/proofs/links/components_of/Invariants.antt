use Rattle.std.proofs.Common.{◌≡◌, ◌≤◌, ◌==◌, length, filter}
use Rattle.std.specs.List.{range_with_len}
use Rattle.linking_core.specs.Component.{component_number}
use Rattle.evidence_core.proofs.links.components_of.Given as goal

abbrev pub invariant-loop-c : goal.invariant-loop-c
invariant-loop-c l = (l.found.items ≡ filter (λ c. component_number l.grid c == c) (range_with_len 0 l.c)) × (length l.found.items ≤ l.c)
