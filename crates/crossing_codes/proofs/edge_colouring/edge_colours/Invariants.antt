use Rattle.std.proofs.Common.{◌≡◌, ◌≤◌, length}
use Rattle.crossing_codes.proofs.EdgeSteps.{edges_so_far, loops_so_far}
use Rattle.crossing_codes.proofs.edge_colouring.edge_colours.Given as goal

abbrev pub invariant-loop-start : goal.invariant-loop-start
invariant-loop-start l = record {
  edges : l.found.items ≡ edges_so_far l.quandle l.layout l.colours l.start-items l.start-index;
  loops : l.loops.items ≡ loops_so_far l.layout l.colours l.start-items l.start-index;
  few : length l.loops.items ≤ l.start-index;
}
