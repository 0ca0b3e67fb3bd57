use Rattle.std.proofs.Common.{◌≡◌, [], length}
use Rattle.code_text.specs.GaussLines.{walks_from}
use Rattle.code_text.proofs.gauss_lines.walks_from.Given as goal

abbrev pub invariant-loop-alloc : goal.invariant-loop-alloc
invariant-loop-alloc l = walks_from l.walks.items l.lines ≡ walks_from [] l.fn.lines

abbrev pub decreases-loop-alloc : goal.decreases-loop-alloc
decreases-loop-alloc l = length l.lines.lines
