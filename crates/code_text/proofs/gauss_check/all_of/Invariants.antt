use Rattle.std.proofs.Common.{◌≡◌, take}
use Rattle.code_text.specs.GaussCheck.{all_of}
use Rattle.code_text.proofs.gauss_check.all_of.Given as goal

abbrev pub invariant-loop-walk : goal.invariant-loop-walk
invariant-loop-walk l = l.passages.items ≡ all_of (take l.walk-index l.walks)
