use Rattle.std.proofs.Common.{◌≡◌, ◌&&◌, true, take}
use Rattle.std.specs.List.{list_all}
use Rattle.crossing_codes.specs.CodeColouring.{names_edges, agrees}
use Rattle.crossing_codes.proofs.code_colouring.is_code_colouring.Given as goal

abbrev pub invariant-loop-crossing : goal.invariant-loop-crossing
invariant-loop-crossing l = list_all (λ x. names_edges l.code.edges x && agrees l.quandle l.colours x) (take l.crossing-index l.crossing-items) ≡ true
