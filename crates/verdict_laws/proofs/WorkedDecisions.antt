-- The limits by their numbers, which stand here alone beside the constants, and a text behind an input.
use Rattle.std.proofs.Common.{◌≡◌, refl, codes}
use Rattle.knot_ports.specs.declared.limits.TheConstants.{MAX_INPUT, MAX_CERTIFICATE}
use Rattle.verdict_laws.specs.VerdictDecision.{put_behind}

most_of_an_input : MAX_INPUT ≡ 1048576
most_of_an_input = refl

most_of_a_certificate : MAX_CERTIFICATE ≡ 33554432
most_of_a_certificate = refl

behind_a_whole_line : put_behind (codes "x\n") (codes "equal 0\n") ≡ codes "x\nequal 0\n"
behind_a_whole_line = refl

behind_a_line_without_its_feed : put_behind (codes "x") (codes "equal 0\n") ≡ codes "x\nequal 0\n"
behind_a_line_without_its_feed = refl
