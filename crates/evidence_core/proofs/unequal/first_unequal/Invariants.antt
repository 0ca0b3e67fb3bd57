use Rattle.std.proofs.Common.{◌≡◌, drop}
use Rattle.std.specs.Prelude.{nat_eq}
use Rattle.evidence_core.specs.Unequal.{first_unequal}
use Rattle.evidence_core.proofs.FirstUnequal.{further}
use Rattle.evidence_core.proofs.unequal.first_unequal.Given as goal

abbrev pub invariant-loop-place : goal.invariant-loop-place
invariant-loop-place l = further l.place (first_unequal nat_eq (drop l.place l.given) (drop l.place l.own)) ≡ first_unequal nat_eq l.given l.own
