use Rattle.std.proofs.Common.{◌≡◌, take}
use Rattle.std.specs.List.{flat_map}
use Rattle.colour_list.specs.Level.{with_both}
use Rattle.colour_list.proofs.level.open_bottom.Given as goal

abbrev pub invariant-loop-colours : goal.invariant-loop-colours
invariant-loop-colours l = l.next.items ≡ flat_map (with_both l.quandle l.row) (take l.colours-index l.level)
