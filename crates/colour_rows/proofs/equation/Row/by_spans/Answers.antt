use Rattle.std.proofs.Common.{◌<◌, All, sym, subst, List}
use Rattle.colour_rows.specs.declared.equation.Pass.{Pass}
use Rattle.colour_rows.proofs.Equations.{passes_below}
use Rattle.colour_rows.proofs.equation.Row.by_spans.Goals as goal

pub invariant_of-result : goal.invariant_of-result
invariant_of-result c = (
  c.ends-left.ensures.within.0,
  subst (λ (ps : List Pass). All (λ (p : Pass). p.column < c.ends-left.result.1) ps) (sym c.passed-passed.ensures)
      (passes_below c.args.grid.now c.args.row c.ends-left.result.0 c.ends-left.result.1),
)
