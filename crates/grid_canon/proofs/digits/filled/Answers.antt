use Rattle.std.proofs.Common.{◌≡◌, ◌<◌, ◌+◌, ◌^◌, ℕ, set, arith, sym, subst}
use Rattle.grid_canon.specs.declared.digits.TheConstants.{SHORT_BASE}
use Rattle.grid_canon.specs.Digits.{digits}
use Rattle.grid_canon.proofs.Placed.{filled_word}
use Rattle.grid_canon.proofs.digits.filled.Goals as goal

pub overflow_add-result : goal.overflow_add-result
overflow_add-result c =
    let w = filled_word c.args.size c.args.value c.args.digit c.args.place c.requires.place c.requires.most c.requires.value c.requires.digit c.requires.free in
    record { fits = omega (arith, w.turned, w.word) }

pub returns-clause-fits : goal.returns-clause-fits
returns-clause-fits c =
    let w = filled_word c.args.size c.args.value c.args.digit c.args.place c.requires.place c.requires.most c.requires.value c.requires.digit c.requires.free in
    subst (λ (z : ℕ). c.args.value + z < SHORT_BASE ^ c.args.size) (sym w.turned) w.fits

pub returns-clause-filled : goal.returns-clause-filled
returns-clause-filled c =
    let w = filled_word c.args.size c.args.value c.args.digit c.args.place c.requires.place c.requires.most c.requires.value c.requires.digit c.requires.free in
    subst (λ (z : ℕ). digits c.args.size (c.args.value + z) ≡ set (digits c.args.size c.args.value) c.args.place c.args.digit) (sym w.turned) w.list
