use Rattle.std.proofs.Common.{arith}
use Rattle.seek_core.proofs.WholeLines.{whole_by_last}
use Rattle.seek_core.proofs.parts.are_whole_lines.Goals as goal

pub returns : goal.returns
returns c = whole_by_last c.args.bytes.now (omega (arith, c.if-size-eq0.false))
