use Rattle.std.proofs.Common.{◌≡◌, take}
use Rattle.std.specs.List.{flat_map}
use Rattle.plain_jobs.specs.Jobs.Colour.{listed_text}
use Rattle.plain_jobs.proofs.jobs.colour.colour_text.Given as goal

abbrev pub invariant-loop-listed : goal.invariant-loop-listed
invariant-loop-listed l = l.out.items ≡ flat_map (listed_text l.grid) (take l.listed-index l.quandles)
