use Rattle.std.proofs.Common.{◌≡◌, ◌-◌, ◌*◌, ◌^◌, ◌∙◌, ℕ, arith, sym, subst}
use Rattle.std.specs.declared.cmp.Ordering.TheVariants.{Less}
use Rattle.std.proofs.lemmas.Bool.{both_ways}
use Rattle.grid_canon.specs.declared.digits.TheConstants.{SHORT_BASE, GUARD}
use Rattle.grid_keys.specs.Order.{compare}
use Rattle.grid_canon.specs.LowColumns.{IsCornered}
use Rattle.grid_keys.specs.Cornered.{cornered}
use Rattle.grid_canon.proofs.CutNumbers.{few}
use Rattle.grid_canon.proofs.LowColumns.{IsLeft, begins, goes, ends, mark_in}
use Rattle.grid_canon.proofs.short_grid.ShortGrid.least_translate.Goals as goal

pub overflow_mul-marks : goal.overflow_mul-marks
overflow_mul-marks c =
    let s = c.self.inside in
    let d = c.args.self.now in
    let f = few s.size s.crosses s.rings d c.self.view_is c.self.invariant in
    let p = c.digits_behind-behind.result in
    let b =
    begins d c.low_columns-marks.result p f.grid c.low_columns-marks.ensures c.digits_behind-behind.ensures.least c.digits_behind-behind.ensures.most in
    let m = mark_in s.size p b.column c.low_columns-marks.result f.most (b.inside ∙ f.columns) b.taken in
    record { fits = omega (arith, m.bits) }

pub overflow_shl-marks : goal.overflow_shl-marks
overflow_shl-marks c =
    let s = c.self.inside in
    let d = c.args.self.now in
    let f = few s.size s.crosses s.rings d c.self.view_is c.self.invariant in
    let p = c.digits_behind-behind.result in
    let b =
    begins d c.low_columns-marks.result p f.grid c.low_columns-marks.ensures c.digits_behind-behind.ensures.least c.digits_behind-behind.ensures.most in
    let m = mark_in s.size p b.column c.low_columns-marks.result f.most (b.inside ∙ f.columns) b.taken in
    m.bits

pub overflow_sub-marks : goal.overflow_sub-marks
overflow_sub-marks c =
    let s = c.self.inside in
    let d = c.args.self.now in
    let f = few s.size s.crosses s.rings d c.self.view_is c.self.invariant in
    let p = c.digits_behind-behind.result in
    let b =
    begins d c.low_columns-marks.result p f.grid c.low_columns-marks.ensures c.digits_behind-behind.ensures.least c.digits_behind-behind.ensures.most in
    let m = mark_in s.size p b.column c.low_columns-marks.result f.most (b.inside ∙ f.columns) b.taken in
    m.taken

pub overflow_sub-size-2 : goal.overflow_sub-size-2
overflow_sub-size-2 c =
    let s = c.self.inside in
    let d = c.args.self.now in
    let f = few s.size s.crosses s.rings d c.self.view_is c.self.invariant in
    let p = c.digits_behind-behind.result in
    let b =
    begins d c.low_columns-marks.result p f.grid c.low_columns-marks.ensures c.digits_behind-behind.ensures.least c.digits_behind-behind.ensures.most in
    let m = mark_in s.size p b.column c.low_columns-marks.result f.most (b.inside ∙ f.columns) b.taken in
    omega (arith, m.inside)

pub cornered_at-best-requires : goal.cornered_at-best-requires
cornered_at-best-requires c =
    let s = c.self.inside in
    let d = c.args.self.now in
    let f = few s.size s.crosses s.rings d c.self.view_is c.self.invariant in
    let p = c.digits_behind-behind.result in
    let b =
    begins d c.low_columns-marks.result p f.grid c.low_columns-marks.ensures c.digits_behind-behind.ensures.least c.digits_behind-behind.ensures.most in
    let m = mark_in s.size p b.column c.low_columns-marks.result f.most (b.inside ∙ f.columns) b.taken in
    omega (arith, m.inside, f.columns)

pub loop-marks-init : goal.loop-marks-init
loop-marks-init c =
    let s = c.self.inside in
    let d = c.args.self.now in
    let f = few s.size s.crosses s.rings d c.self.view_is c.self.invariant in
    let p = c.digits_behind-behind.result in
    let b =
    begins d c.low_columns-marks.result p f.grid c.low_columns-marks.ensures c.digits_behind-behind.ensures.least c.digits_behind-behind.ensures.most in
    let m = mark_in s.size p b.column c.low_columns-marks.result f.most (b.inside ∙ f.columns) b.taken in
    let best = c.cornered_at-best.result in
    let at : b.column ≡ best.column = omega (arith, c.cornered_at-best.ensures.column, b.inside, f.columns) in
    record {
      left = subst (λ (z : ℕ). IsLeft d best.column (c.low_columns-marks.result - z)) (sym m.power)
          (subst (λ (z : ℕ). IsLeft d z (c.low_columns-marks.result - GUARD * SHORT_BASE ^ p)) at b.left);
      found = subst (λ (z : ℕ). IsCornered d z best.row best.crosses) (sym c.cornered_at-best.ensures.column) c.cornered_at-best.ensures.found;
    }

pub overflow_mul-marks-in-loop-marks : goal.overflow_mul-marks-in-loop-marks
overflow_mul-marks-in-loop-marks c =
    let s = c.self.inside in
    let d = c.args.self.now in
    let f = few s.size s.crosses s.rings d c.self.view_is c.self.invariant in
    let p = c.digits_behind-behind-in-loop-marks.result in
    let g =
    goes d c.loop-marks.best.column c.loop-marks.marks p f.grid c.loop-marks.invariant.left c.digits_behind-behind-in-loop-marks.ensures.least
    c.digits_behind-behind-in-loop-marks.ensures.most in
    let m = mark_in s.size p g.column c.loop-marks.marks f.most (g.inside ∙ f.columns) g.taken in
    record { fits = omega (arith, m.bits) }

pub overflow_shl-marks-in-loop-marks : goal.overflow_shl-marks-in-loop-marks
overflow_shl-marks-in-loop-marks c =
    let s = c.self.inside in
    let d = c.args.self.now in
    let f = few s.size s.crosses s.rings d c.self.view_is c.self.invariant in
    let p = c.digits_behind-behind-in-loop-marks.result in
    let g =
    goes d c.loop-marks.best.column c.loop-marks.marks p f.grid c.loop-marks.invariant.left c.digits_behind-behind-in-loop-marks.ensures.least
    c.digits_behind-behind-in-loop-marks.ensures.most in
    let m = mark_in s.size p g.column c.loop-marks.marks f.most (g.inside ∙ f.columns) g.taken in
    m.bits

pub overflow_sub-marks-in-loop-marks : goal.overflow_sub-marks-in-loop-marks
overflow_sub-marks-in-loop-marks c =
    let s = c.self.inside in
    let d = c.args.self.now in
    let f = few s.size s.crosses s.rings d c.self.view_is c.self.invariant in
    let p = c.digits_behind-behind-in-loop-marks.result in
    let g =
    goes d c.loop-marks.best.column c.loop-marks.marks p f.grid c.loop-marks.invariant.left c.digits_behind-behind-in-loop-marks.ensures.least
    c.digits_behind-behind-in-loop-marks.ensures.most in
    let m = mark_in s.size p g.column c.loop-marks.marks f.most (g.inside ∙ f.columns) g.taken in
    m.taken

pub overflow_sub-size-in-loop-marks-2 : goal.overflow_sub-size-in-loop-marks-2
overflow_sub-size-in-loop-marks-2 c =
    let s = c.self.inside in
    let d = c.args.self.now in
    let f = few s.size s.crosses s.rings d c.self.view_is c.self.invariant in
    let p = c.digits_behind-behind-in-loop-marks.result in
    let g =
    goes d c.loop-marks.best.column c.loop-marks.marks p f.grid c.loop-marks.invariant.left c.digits_behind-behind-in-loop-marks.ensures.least
    c.digits_behind-behind-in-loop-marks.ensures.most in
    let m = mark_in s.size p g.column c.loop-marks.marks f.most (g.inside ∙ f.columns) g.taken in
    omega (arith, m.inside)

pub cornered_at-next-requires : goal.cornered_at-next-requires
cornered_at-next-requires c =
    let s = c.self.inside in
    let d = c.args.self.now in
    let f = few s.size s.crosses s.rings d c.self.view_is c.self.invariant in
    let p = c.digits_behind-behind-in-loop-marks.result in
    let g =
    goes d c.loop-marks.best.column c.loop-marks.marks p f.grid c.loop-marks.invariant.left c.digits_behind-behind-in-loop-marks.ensures.least
    c.digits_behind-behind-in-loop-marks.ensures.most in
    let m = mark_in s.size p g.column c.loop-marks.marks f.most (g.inside ∙ f.columns) g.taken in
    omega (arith, m.inside, f.columns)

pub loop-marks-smaller-then-comes_before : goal.loop-marks-smaller-then-comes_before
loop-marks-smaller-then-comes_before c =
    let s = c.self.inside in
    let d = c.args.self.now in
    let f = few s.size s.crosses s.rings d c.self.view_is c.self.invariant in
    let p = c.digits_behind-behind-in-loop-marks.result in
    let g =
    goes d c.loop-marks.best.column c.loop-marks.marks p f.grid c.loop-marks.invariant.left c.digits_behind-behind-in-loop-marks.ensures.least
    c.digits_behind-behind-in-loop-marks.ensures.most in
    let m = mark_in s.size p g.column c.loop-marks.marks f.most (g.inside ∙ f.columns) g.taken in
    m.fewer

pub loop-marks-smaller : goal.loop-marks-smaller
loop-marks-smaller c =
    let s = c.self.inside in
    let d = c.args.self.now in
    let f = few s.size s.crosses s.rings d c.self.view_is c.self.invariant in
    let p = c.digits_behind-behind-in-loop-marks.result in
    let g =
    goes d c.loop-marks.best.column c.loop-marks.marks p f.grid c.loop-marks.invariant.left c.digits_behind-behind-in-loop-marks.ensures.least
    c.digits_behind-behind-in-loop-marks.ensures.most in
    let m = mark_in s.size p g.column c.loop-marks.marks f.most (g.inside ∙ f.columns) g.taken in
    m.fewer

pub loop-marks-preserved-then-comes_before : goal.loop-marks-preserved-then-comes_before
loop-marks-preserved-then-comes_before c =
    let s = c.self.inside in
    let d = c.args.self.now in
    let f = few s.size s.crosses s.rings d c.self.view_is c.self.invariant in
    let p = c.digits_behind-behind-in-loop-marks.result in
    let g =
    goes d c.loop-marks.best.column c.loop-marks.marks p f.grid c.loop-marks.invariant.left c.digits_behind-behind-in-loop-marks.ensures.least
    c.digits_behind-behind-in-loop-marks.ensures.most in
    let m = mark_in s.size p g.column c.loop-marks.marks f.most (g.inside ∙ f.columns) g.taken in
    let next = c.cornered_at-next.result in
    let at : g.column ≡ next.column = omega (arith, c.cornered_at-next.ensures.column, g.inside, f.columns) in
    let less : compare (cornered d g.column) (cornered d c.loop-marks.best.column) ≡ Less =
    subst (λ (z : ℕ). compare (cornered d z) (cornered d c.loop-marks.best.column) ≡ Less) (sym at) (c.comes_before.ensures.0 c.if-comes_before.true) in
    record {
      left = subst (λ (z : ℕ). IsLeft d next.column (c.loop-marks.marks - z)) (sym m.power) (subst (λ (z : ℕ). IsLeft d z (c.loop-marks.marks - GUARD * SHORT_BASE ^ p)) at (g.takes less));
      found = subst (λ (z : ℕ). IsCornered d z next.row next.crosses) (sym c.cornered_at-next.ensures.column) c.cornered_at-next.ensures.found;
    }

pub loop-marks-preserved : goal.loop-marks-preserved
loop-marks-preserved c =
    let s = c.self.inside in
    let d = c.args.self.now in
    let f = few s.size s.crosses s.rings d c.self.view_is c.self.invariant in
    let p = c.digits_behind-behind-in-loop-marks.result in
    let g =
    goes d c.loop-marks.best.column c.loop-marks.marks p f.grid c.loop-marks.invariant.left c.digits_behind-behind-in-loop-marks.ensures.least
    c.digits_behind-behind-in-loop-marks.ensures.most in
    let m = mark_in s.size p g.column c.loop-marks.marks f.most (g.inside ∙ f.columns) g.taken in
    let next = c.cornered_at-next.result in
    let at : g.column ≡ next.column = omega (arith, c.cornered_at-next.ensures.column, g.inside, f.columns) in
    record {
      left = subst (λ (z : ℕ). IsLeft d c.loop-marks.best.column (c.loop-marks.marks - z)) (sym m.power)
          (g.keeps (λ less. both_ways c.comes_before.result c.if-comes_before.false
          (c.comes_before.ensures.1 (subst (λ (z : ℕ). compare (cornered d z) (cornered d c.loop-marks.best.column) ≡ Less) at less))));
      found = c.loop-marks.invariant.found;
    }

pub returns-clause-first : goal.returns-clause-first
returns-clause-first c =
    let s = c.self.inside in
    let d = c.args.self.now in
    let f = few s.size s.crosses s.rings d c.self.view_is c.self.invariant in
    ends d c.loop-marks.best.column c.loop-marks.marks f.grid c.loop-marks.invariant.left (omega arith)
