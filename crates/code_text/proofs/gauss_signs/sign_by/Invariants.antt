use Rattle.std.proofs.Common.{◌≡◌, length}
use Rattle.code_text.specs.GaussSigns.{sign_by}
use Rattle.code_text.proofs.gauss_signs.sign_by.Given as goal

abbrev pub invariant-loop-left : goal.invariant-loop-left
invariant-loop-left l = sign_by l.left l.number l.sign ≡ sign_by l.passages l.number l.sign

abbrev pub decreases-loop-left : goal.decreases-loop-left
decreases-loop-left l = length l.left
