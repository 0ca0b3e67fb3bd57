use Rattle.std.proofs.Common.{◌≡◌, take}
use Rattle.cocycle_core.proofs.large.copy_of.Given as goal

abbrev pub invariant-loop-byte : goal.invariant-loop-byte
invariant-loop-byte l = l.copy.items ≡ take l.byte-index l.bytes
