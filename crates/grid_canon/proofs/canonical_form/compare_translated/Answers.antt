use Rattle.std.proofs.Common.{◌∙◌, arith, ap₂, sym, length}
use Rattle.std.specs.Ordering.{nat_cmp}
use Rattle.grid_keys.specs.Translation.{translated_rows}
use Rattle.grid_keys.proofs.Translated.{length-translated_rows}
use Rattle.grid_keys.proofs.Ordered.{slice_cmp_at, slice_cmp_same}
use Rattle.grid_canon.proofs.canonical_form.compare_translated.Goals as goal

pub returns-in_default : goal.returns-in_default
returns-in_default c =
    let n = length c.args.rows.now in
    let near = translated_rows n c.args.near c.args.near_by c.args.rows.now in
    let far = translated_rows n c.args.far c.args.far_by c.args.rows.now in
    let here = c.cmp.ensures ∙ ap₂ nat_cmp c.translated_row.ensures c.translated_row-in-loop-c.ensures in
    here ∙ sym (slice_cmp_at near far c.loop-c.c (omega (arith, length-translated_rows n c.args.near c.args.near_by c.args.rows.now (omega arith)))
    (omega (arith, length-translated_rows n c.args.far c.args.far_by c.args.rows.now (omega arith))) c.loop-c.invariant
    (λ e. c.in_default.not-Equal (here ∙ e)))

pub returns : goal.returns
returns c =
    let n = length c.args.rows.now in
    let near = translated_rows n c.args.near c.args.near_by c.args.rows.now in
    let far = translated_rows n c.args.far c.args.far_by c.args.rows.now in
    sym (slice_cmp_same near far (omega (
      arith,
      length-translated_rows n c.args.near c.args.near_by c.args.rows.now
          (omega arith),
      length-translated_rows n c.args.far c.args.far_by c.args.rows.now (omega arith),
    ))
    (λ k lt. c.loop-c.invariant k (omega (arith, lt, length-translated_rows n c.args.near c.args.near_by c.args.rows.now (omega arith)))))
