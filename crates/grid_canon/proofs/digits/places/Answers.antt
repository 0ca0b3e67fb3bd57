use Rattle.std.proofs.Common.{◌<◌, ◌∙◌, ℕ, set, arith, ap₂}
use Rattle.grid_core.proofs.OneEach.{each_below}
use Rattle.grid_canon.specs.Digits.{digits}
use Rattle.grid_canon.proofs.NumbersOfDigits.{length-digits}
use Rattle.grid_canon.proofs.Placed.{no_places, more_places}
use Rattle.grid_canon.proofs.digits.places.Goals as goal

pub loop-place-init : goal.loop-place-init
loop-place-init c = no_places c.args.size c.args.value

pub overflow_cast-number : goal.overflow_cast-number
overflow_cast-number c =
    let at : c.loop-place.place < c.args.size = c.loop-place-test.true in
    let low =
    each_below c.args.size (digits c.args.size c.args.value) c.requires.each c.loop-place.place 0
    (omega (arith, at, length-digits c.args.size c.args.value)) in
    record { fits = omega (arith, low, c.nth_digit-number.ensures, c.requires.most) }

pub filled-places-requires-clause-place : goal.filled-places-requires-clause-place
filled-places-requires-clause-place c =
    let at : c.loop-place.place < c.args.size = c.loop-place-test.true in
    let low =
    each_below c.args.size (digits c.args.size c.args.value) c.requires.each c.loop-place.place 0
    (omega (arith, at, length-digits c.args.size c.args.value)) in
    omega (arith, low, c.nth_digit-number.ensures)

pub loop-place-preserved : goal.loop-place-preserved
loop-place-preserved c =
    more_places c.args.size c.args.value c.loop-place.places c.filled-places.result c.loop-place.place c.requires.each c.loop-place.invariant
    c.loop-place-test.true c.filled-places.ensures.fits
    (c.filled-places.ensures.filled
    ∙ ap₂ (λ (z w : ℕ). set (digits c.args.size c.loop-place.places) z w) c.nth_digit-number.ensures c.from.ensures)
