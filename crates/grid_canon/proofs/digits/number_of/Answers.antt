use Rattle.std.proofs.Common.{◌∙◌, ◌+◌, ◌*◌, ℕ, arith, ap₂, sym}
use Rattle.grid_canon.specs.declared.digits.TheConstants.{SHORT_BASE}
use Rattle.grid_canon.proofs.DigitLists.{short_more}
use Rattle.grid_canon.proofs.digits.number_of.Goals as goal

pub overflow_mul-value : goal.overflow_mul-value
overflow_mul-value c = record {
  fits = omega (
    arith,
    c.loop-row.invariant,
    (short_more c.args.rows.now c.loop-row.row-index c.requires.inside c.requires.count c.loop-row-test.true).1,
  );
}

pub overflow_add-value : goal.overflow_add-value
overflow_add-value c = record {
  fits = omega (
    arith,
    c.loop-row.invariant,
    c.from.ensures,
    (short_more c.args.rows.now c.loop-row.row-index c.requires.inside c.requires.count c.loop-row-test.true).1,
  );
}

pub loop-row-preserved : goal.loop-row-preserved
loop-row-preserved c =
    ap₂ (λ (z w : ℕ). z * SHORT_BASE + w) c.loop-row.invariant c.from.ensures
    ∙ sym (short_more c.args.rows.now c.loop-row.row-index c.requires.inside c.requires.count c.loop-row-test.true).0
