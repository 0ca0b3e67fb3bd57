use Rattle.std.proofs.Common.{◌≡◌, take, map}
use Rattle.colour_list.specs.Listing.{lists_of}
use Rattle.colour_list.proofs.level.colourings_of.Given as goal

abbrev pub invariant-loop-colours : goal.invariant-loop-colours
invariant-loop-colours l = lists_of l.list.items ≡ map (take l.size) (take l.colours-index l.level)
