use Rattle.std.proofs.Common.{◌≡◌, ◌++◌, take}
use Rattle.std.specs.List.{flat_map}
use Rattle.plain_jobs.specs.Jobs.Braid.{word_fixed_text}
use Rattle.plain_jobs.proofs.jobs.braid.push_all_fixed.Given as goal

abbrev pub invariant-loop-listed : goal.invariant-loop-listed
invariant-loop-listed l = l.out.items ≡ l.fn.out.items ++ flat_map (word_fixed_text l.grid) (take l.listed-index l.quandles)
