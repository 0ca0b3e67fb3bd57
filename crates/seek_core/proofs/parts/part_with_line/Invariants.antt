use Rattle.std.proofs.Common.{◌≡◌, ◌+◌, ◌<◌, ◌⊎◌, length}
use Rattle.seek_core.specs.Parts.{lines_before}
use Rattle.seek_core.proofs.parts.part_with_line.Given as goal

abbrev pub invariant-loop-part : goal.invariant-loop-part
invariant-loop-part l = record {
  behind : l.line ≡ lines_before l.part l.parts + l.left;
  begun : 0 < l.line → 0 < l.left;
  inside : (l.part ≡ 0) ⊎ (l.part < length l.parts);
}
