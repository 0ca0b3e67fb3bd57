use Rattle.std.proofs.Common.{◌∙◌, ◌+◌, ◌*◌, ℕ, arith, ap₂, sym}
use Rattle.grid_keys.specs.declared.key.TheConstants.{BASE}
use Rattle.grid_keys.proofs.Numbers.{number_more, number_fits}
use Rattle.grid_keys.proofs.key.number.Goals as goal

pub overflow_mul-value : goal.overflow_mul-value
overflow_mul-value c = record {
  fits = omega (arith, c.loop-row.invariant, number_fits c.args.rows.now c.loop-row.row-index c.requires.inside c.requires.count c.loop-row-test.true);
}

pub overflow_add-value : goal.overflow_add-value
overflow_add-value c = record {
  fits = omega (
    arith,
    c.loop-row.invariant,
    c.from.ensures,
    number_fits c.args.rows.now c.loop-row.row-index c.requires.inside c.requires.count c.loop-row-test.true,
  );
}

pub loop-row-preserved : goal.loop-row-preserved
loop-row-preserved c =
    ap₂ (λ (z w : ℕ). z * BASE + w) c.loop-row.invariant c.from.ensures ∙ sym (number_more c.args.rows.now c.loop-row.row-index c.loop-row-test.true)
