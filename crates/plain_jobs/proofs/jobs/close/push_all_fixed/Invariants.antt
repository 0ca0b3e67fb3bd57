use Rattle.std.proofs.Common.{◌≡◌, ◌++◌, take}
use Rattle.std.specs.List.{flat_map}
use Rattle.plain_jobs.specs.Jobs.Close.{fixed_text}
use Rattle.plain_jobs.proofs.jobs.close.push_all_fixed.Given as goal

abbrev pub invariant-loop-listed : goal.invariant-loop-listed
invariant-loop-listed l = l.out.items ≡ l.fn.out.items ++ flat_map (fixed_text l.braid) (take l.listed-index l.quandles)
