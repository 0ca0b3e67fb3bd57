use Rattle.std.proofs.Common.{◌≡◌, ◌<◌, ◌++◌, drop}
use Rattle.crossing_codes.specs.OnTheWay.{on_the_way}
use Rattle.crossing_codes.proofs.edge_colouring.push_edges.Given as goal

abbrev pub invariant-loop-passage : goal.invariant-loop-passage
invariant-loop-passage l = record {
  below : l.colour < l.quandle.order;
  so_far : l.out.items ++ on_the_way l.quandle l.layout l.colours l.colour (drop l.passage-index l.round) ≡ l.fn.out.items ++ on_the_way l.quandle l.layout l.colours l.fn.colour l.round;
}
