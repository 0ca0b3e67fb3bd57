use Rattle.std.proofs.Common.{true, ap, sym, ◌∙◌}
use Rattle.braid_moves.specs.Fault.{first_step_fault}
use Rattle.braid_moves.proofs.fault.fault_of.Goals as goal

pub returns-in-Grow : goal.returns-in-Grow
returns-in-Grow c = c.grow_fault.ensures true ∙ sym (ap (first_step_fault c.args.braid.now) c.in-Grow.is)
