use Rattle.std.proofs.Common.{◌≡◌, map, take, length, ◌==◌}
use Rattle.std.specs.List.{flat_map, filter}
use Rattle.crossing_codes.specs.Passages.{passages_from}
use Rattle.crossing_codes.specs.Edges.{all_lead_to}
use Rattle.crossing_codes.proofs.edges.Route.of.Given as goal

abbrev pub invariant-loop-start : goal.invariant-loop-start
invariant-loop-start l = record {
  passages : l.passages.items ≡ flat_map (passages_from l.layout) (take l.start-index l.start-items);
  after : l.after.items ≡ all_lead_to 0 (map (λ s. length (passages_from l.layout s)) (take l.start-index l.start-items));
  loops : l.loops ≡ length (filter (λ s. length (passages_from l.layout s) == 0) (take l.start-index l.start-items));
}
