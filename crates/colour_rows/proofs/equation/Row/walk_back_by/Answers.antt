use Rattle.std.proofs.Common.{false}
use Rattle.colour_rows.proofs.Equations.{back_step}
use Rattle.colour_rows.proofs.equation.Row.walk_back_by.Goals as goal

pub loop-done-preserved : goal.loop-done-preserved
loop-done-preserved c = (
  c.loop-done.invariant.0,
  back_step c.args.quandle.now c.args.colours.now c.args.self.now.passes c.as_slice-passed.result.now c.loop-done.done _ c.loop-done.colour
      c.leftward-colour.result (record { column = 0; up = false })
      c.loop-done.invariant.0 c.loop-done-test.true c.loop-done.invariant.1 c.leftward-colour.ensures.is,
  c.leftward-colour.ensures.below,
)
