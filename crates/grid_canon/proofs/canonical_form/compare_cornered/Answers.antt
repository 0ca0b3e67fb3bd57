use Rattle.std.proofs.Common.{◌∙◌, ℕ, arith, length, ap, sym}
use Rattle.grid_core.specs.declared.mark.Kind.TheVariants.{Cross}
use Rattle.grid_core.proofs.Marks.{row_below}
use Rattle.grid_keys.specs.Translation.{translated_rows}
use Rattle.std.specs.List.{slice_index}
use Rattle.grid_keys.proofs.LeastTranslates.{rows_inside, rings_inside, first_two_agree}
use Rattle.grid_canon.proofs.canonical_form.compare_cornered.Goals as goal

pub compare_translated-requires-clause-inside : goal.compare_translated-requires-clause-inside
compare_translated-requires-clause-inside c = rows_inside (record { x = c.args.x.now; o = c.args.o.now }) c.requires.grid

pub compare_translated-requires-clause-near_by : goal.compare_translated-requires-clause-near_by
compare_translated-requires-clause-near_by c =
    omega (arith, c.from-near_by.ensures, row_below (record { x = c.args.x.now; o = c.args.o.now }) c.requires.grid Cross c.args.near c.requires.near)

pub compare_translated-requires-clause-far_by : goal.compare_translated-requires-clause-far_by
compare_translated-requires-clause-far_by c =
    omega (arith, c.from-far_by.ensures, row_below (record { x = c.args.x.now; o = c.args.o.now }) c.requires.grid Cross c.args.far c.requires.far)

pub compare_translated-requires-clause-agree : goal.compare_translated-requires-clause-agree
compare_translated-requires-clause-agree c k lt =
    ap (λ (b : ℕ). slice_index (translated_rows (length c.args.x.now) c.args.near b c.args.x.now) k) c.from-near_by.ensures
    ∙ first_two_agree (record { x = c.args.x.now; o = c.args.o.now }) c.args.near c.args.far c.requires.grid c.requires.near c.requires.far c.requires.second
    k lt
    ∙ sym (ap (λ (b : ℕ). slice_index (translated_rows (length c.args.x.now) c.args.far b c.args.x.now) k) c.from-far_by.ensures)

pub compare_translated-requires-in-Equal-clause-inside : goal.compare_translated-requires-in-Equal-clause-inside
compare_translated-requires-in-Equal-clause-inside c = rings_inside (record { x = c.args.x.now; o = c.args.o.now }) c.requires.grid

pub compare_translated-requires-in-Equal-clause-near_by : goal.compare_translated-requires-in-Equal-clause-near_by
compare_translated-requires-in-Equal-clause-near_by c =
    omega (
      arith,
      c.requires.grid.same,
      c.from-near_by.ensures,
      row_below
          (record { x = c.args.x.now; o = c.args.o.now }) c.requires.grid Cross c.args.near c.requires.near,
    )

pub compare_translated-requires-in-Equal-clause-far_by : goal.compare_translated-requires-in-Equal-clause-far_by
compare_translated-requires-in-Equal-clause-far_by c =
    omega (
      arith,
      c.requires.grid.same,
      c.from-far_by.ensures,
      row_below
          (record { x = c.args.x.now; o = c.args.o.now }) c.requires.grid Cross c.args.far c.requires.far,
    )
