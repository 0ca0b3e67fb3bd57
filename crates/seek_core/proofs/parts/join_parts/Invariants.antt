use Rattle.std.proofs.Common.{◌≡◌, take}
use Rattle.seek_core.specs.Parts.{joined}
use Rattle.seek_core.proofs.parts.join_parts.Given as goal

abbrev pub invariant-loop-part : goal.invariant-loop-part
invariant-loop-part l = l.whole.items ≡ joined (take l.part-index l.parts)
