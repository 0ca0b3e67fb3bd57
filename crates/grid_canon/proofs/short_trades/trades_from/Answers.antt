use Rattle.std.proofs.Common.{arith}
use Rattle.grid_canon.specs.declared.digits.TheConstants.{GUARD}
use Rattle.grid_canon.proofs.Placed.{all_digits}
use Rattle.grid_canon.proofs.MarkedTrades.{masks_of}
use Rattle.grid_canon.proofs.short_trades.trades_from.Goals as goal

pub below-ring_at_start-requires-clause-other_inside : goal.below-ring_at_start-requires-clause-other_inside
below-ring_at_start-requires-clause-other_inside c =
    all_digits c.args.size c.repeated.result GUARD (λ k lt. omega (arith, c.repeated.ensures.each k lt))

pub invariant_of-result : goal.invariant_of-result
invariant_of-result c =
    let m =
    masks_of c.args.size c.args.end c.args.cross c.args.ring c.guards-guards.result c.below-cross_before.result c.below-ring_before.result c.below.result
    c.repeated.result c.below-ring_at_start.result c.requires.most (record { fits = c.guards-guards.ensures.fits; at = c.guards-guards.ensures.each })
    (record { fits = c.below-cross_before.ensures.fits; at = c.below-cross_before.ensures.marked })
    (record { fits = c.below-ring_before.ensures.fits; at = c.below-ring_before.ensures.marked })
    (record { fits = c.below.ensures.fits; at = c.below.ensures.marked }) (record { fits = c.repeated.ensures.fits; at = c.repeated.ensures.each })
    (record { fits = c.below-ring_at_start.ensures.fits; at = c.below-ring_at_start.ensures.marked }) in
    m.fit

pub returns : goal.returns
returns c =
    let m =
    masks_of c.args.size c.args.end c.args.cross c.args.ring c.guards-guards.result c.below-cross_before.result c.below-ring_before.result c.below.result
    c.repeated.result c.below-ring_at_start.result c.requires.most (record { fits = c.guards-guards.ensures.fits; at = c.guards-guards.ensures.each })
    (record { fits = c.below-cross_before.ensures.fits; at = c.below-cross_before.ensures.marked })
    (record { fits = c.below-ring_before.ensures.fits; at = c.below-ring_before.ensures.marked })
    (record { fits = c.below.ensures.fits; at = c.below.ensures.marked }) (record { fits = c.repeated.ensures.fits; at = c.repeated.ensures.each })
    (record { fits = c.below-ring_at_start.ensures.fits; at = c.below-ring_at_start.ensures.marked }) in
    m.are
