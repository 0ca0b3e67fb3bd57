use Rattle.std.proofs.Common.{◌≡◌, ◌++◌, ◌+◌, map}
use Rattle.std.specs.Prelude.{nat_lt, if◌then◌else◌}
use Rattle.std.specs.List.{range_with_len}
use Rattle.crossing_codes.proofs.edges.push_leads.Given as goal

abbrev pub invariant-loop-done : goal.invariant-loop-done
invariant-loop-done l = l.after.items ≡ l.fn.after.items ++ map (λ t. if nat_lt t l.count then l.before + t + 1 else l.before + 1) (range_with_len 1 l.done)
