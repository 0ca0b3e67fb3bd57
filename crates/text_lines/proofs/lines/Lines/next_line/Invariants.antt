use Rattle.std.proofs.Common.{◌≡◌, ◌+◌, ◌<◌, ◌^◌, length}
use Rattle.text_lines.specs.Lines.{text_from}
use Rattle.text_lines.proofs.lines.Lines.next_line.Given as goal

-- the lines so far were passed over
abbrev pub invariant-loop-self : goal.invariant-loop-self
invariant-loop-self l = record {
  left : text_from l.self-inside.count l.self-inside.rest.now ≡ l.fn.self;
  small : l.self-inside.count + length l.self-inside.rest.now < 2 ^ 63;
}

abbrev pub decreases-loop-self : goal.decreases-loop-self
decreases-loop-self l = length l.self-inside.rest.now
