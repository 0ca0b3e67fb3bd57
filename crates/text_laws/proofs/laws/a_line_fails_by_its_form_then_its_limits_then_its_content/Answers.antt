use Rattle.text_laws.proofs.LineFaults.{x_fails, o_fails, colours_fail, below_fails}
use Rattle.text_laws.proofs.BraidFaults.{braid_fails}
use Rattle.text_laws.proofs.MoveFaults.{move_fails}
use Rattle.text_laws.proofs.StepFaults.{step_fails}
use Rattle.text_laws.proofs.FirstItems.{modulus_fails, version_fails}
use Rattle.text_laws.proofs.laws.a_line_fails_by_its_form_then_its_limits_then_its_content.Goals as goal

pub returns : goal.returns
returns c = record {
  x = x_fails;
  o = o_fails;
  colours = colours_fail;
  below = below_fails;
  braid_line = braid_fails;
  move_line = move_fails;
  step = step_fails;
  modulus = modulus_fails;
  version = version_fails;
}
