use Rattle.std.proofs.Common.{◌≡◌, map, take}
use Rattle.colour_list.specs.Listing.{lists_of}
use Rattle.grid_braid.specs.Feet.{at_feet}
use Rattle.plain_jobs.proofs.jobs.braid.feet_of_all.Given as goal

abbrev pub invariant-loop-colours : goal.invariant-loop-colours
invariant-loop-colours l = lists_of l.feet.items ≡ map (at_feet l.quandle l.grid) (lists_of (take l.colours-index l.all))
