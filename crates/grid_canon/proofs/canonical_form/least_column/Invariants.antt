use Rattle.std.proofs.Common.{◌≡◌}
use Rattle.grid_core.specs.declared.mark.Kind.TheVariants.{Cross}
use Rattle.grid_core.specs.Diagram.{row_of}
use Rattle.grid_keys.specs.Cornered.{cornered, IsFirstLeast}
use Rattle.grid_canon.proofs.canonical_form.least_column.Given as goal

abbrev pub invariant-loop-column : goal.invariant-loop-column
invariant-loop-column l = record {
  first : IsFirstLeast (record { x = l.x; o = l.o }) l.column l.best;
  step : l.best_step ≡ row_of Cross (cornered (record { x = l.x; o = l.o }) l.best) 1;
}
