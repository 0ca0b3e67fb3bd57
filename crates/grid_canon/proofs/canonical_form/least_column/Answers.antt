use Rattle.std.proofs.Common.{◌∙◌, ◌+◌, ◌-◌, ◌≡◌, ℕ, arith, length, sym, subst, ap}
use Rattle.grid_core.specs.declared.mark.Kind.TheVariants.{Cross}
use Rattle.grid_core.specs.Diagram.{Diagram, row_of}
use Rattle.grid_keys.specs.Cornered.{cornered, IsFirstLeast}
use Rattle.grid_keys.proofs.LeastTranslates.{rows_inside, first_least_one, first_least_higher, next_inside, next_of_last}
use Rattle.grid_canon.proofs.canonical_form.least_column.Goals.{then-step-best_step, else-step-best_step}
use Rattle.grid_canon.proofs.canonical_form.least_column.Goals as goal

pub second_row-best_step-requires-clause-inside : goal.second_row-best_step-requires-clause-inside
second_row-best_step-requires-clause-inside c = rows_inside (record { x = c.args.x.now; o = c.args.o.now }) c.requires

pub second_row-best_step-requires-clause-next : goal.second_row-best_step-requires-clause-next
second_row-best_step-requires-clause-next c = next_inside (length c.args.x.now) 0 1 (omega arith) (omega arith)

pub second_row-step-requires-clause-inside : goal.second_row-step-requires-clause-inside
second_row-step-requires-clause-inside c = rows_inside (record { x = c.args.x.now; o = c.args.o.now }) c.requires

pub second_row-step-requires-clause-next : goal.second_row-step-requires-clause-next
second_row-step-requires-clause-next c = next_inside (length c.args.x.now) c.loop-column.column _ (omega arith) (omega arith)

pub second_row-step-requires-2-clause-inside : goal.second_row-step-requires-2-clause-inside
second_row-step-requires-2-clause-inside c = rows_inside (record { x = c.args.x.now; o = c.args.o.now }) c.requires

pub second_row-step-requires-2-clause-next : goal.second_row-step-requires-2-clause-next
second_row-step-requires-2-clause-next c = next_of_last (length c.args.x.now) _ (omega arith) (omega arith)

pub loop-column-init : goal.loop-column-init
loop-column-init c = record {
  first = first_least_one (record { x = c.args.x.now; o = c.args.o.now });
  step = c.second_row-best_step.ensures;
}

pub loop-column-preserved : goal.loop-column-preserved
loop-column-preserved c =
    let d : Diagram = record { x = c.args.x.now; o = c.args.o.now } in
    elim c.if-step-best_step.branch [
      | then-step-best_step w ↦ record {
        first = subst (λ (a : ℕ). IsFirstLeast d (c.loop-column.column + 1) a) (sym w.best-is) w.first_of-best.ensures.first;
        step = w.best_step-is ∙ w.first_of-best.ensures.step ∙ ap (λ (a : ℕ). row_of Cross (cornered d a) 1) (sym w.best-is);
      }
      | else-step-best_step w ↦ record {
        first = subst (λ (a : ℕ). IsFirstLeast d (c.loop-column.column + 1) a) (sym w.best-is)
            (first_least_higher d c.loop-column.column c.loop-column.best c.second_row-step.result c.loop-column.best_step c.requires
            (omega arith) c.loop-column.invariant.first c.second_row-step.ensures c.loop-column.invariant.step (omega (arith, w.if-step-best_step.false)));
        step = w.best_step-is ∙ c.loop-column.invariant.step ∙ ap (λ (a : ℕ). row_of Cross (cornered d a) 1) (sym w.best-is);
      }
    ]

pub returns-else-step-best_step-2 : goal.returns-else-step-best_step-2
returns-else-step-best_step-2 c =
    let d : Diagram = record { x = c.args.x.now; o = c.args.o.now } in
    let at : length c.args.x.now - 1 + 1 ≡ length c.args.x.now = omega (arith, c.requires.least) in
    let here : c.loop-column.column ≡ length c.args.x.now - 1 = omega arith in
    subst (λ (n : ℕ). IsFirstLeast d n c.loop-column.best) at
    (first_least_higher d (length c.args.x.now - 1) c.loop-column.best c.second_row-step-2.result c.loop-column.best_step c.requires
    (omega (arith, c.requires.least)) (subst (λ (n : ℕ). IsFirstLeast d n c.loop-column.best) here c.loop-column.invariant.first)
    c.second_row-step-2.ensures c.loop-column.invariant.step (omega arith))
