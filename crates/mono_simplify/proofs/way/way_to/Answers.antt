use Rattle.std.proofs.Common.{subst, sym, arith, List}
use Rattle.std.specs.List.{Contains}
use Rattle.grid_core.specs.Diagram.{size}
use Rattle.grid_moves.specs.declared.step.Move.{Move}
use Rattle.grid_moves.specs.Joining.{JoinsWithin}
use Rattle.mono_simplify.specs.ExchangeClass.{is_shift_or_exchange}
use Rattle.mono_simplify.specs.Simplified.{is_monotonic, AreMonotonic}
use Rattle.mono_simplify.proofs.Monotonic.{AreAll, monotonic_exchange, all_start, all_on, all_end}
use Rattle.mono_simplify.proofs.Ways.{link_has, still_has, reverse_has, trails_start, trails_more, trails_end, parent_before}
use Rattle.mono_simplify.proofs.way.way_to.Goals as goal

pub loop-here-init : goal.loop-here-init
loop-here-init c = (
  c.requires.place,
  link_has c.new-back.result.items c.push_link_back.new.list.items c.args.last c.in_ok-push_link_back.ensures.list,
  λ key member to stands names same leads small. trails_start c.args.grid.now c.args.class.now c.args.place c.new-back.result.items
      c.push_link_back.new.list.items c.args.last key member to c.new-back.ensures.items c.in_ok-push_link_back.ensures.list stands names same leads small,
  λ kind has step. all_start kind has c.new-back.result.items c.push_link_back.new.list.items c.args.last c.new-back.ensures.items
      c.in_ok-push_link_back.ensures.list step,
)

pub origin_at-origin-requires : goal.origin_at-origin-requires
origin_at-origin-requires c = c.loop-here.invariant.0

pub loop-here-smaller : goal.loop-here-smaller
loop-here-smaller c =
    parent_before c.args.grid.now c.args.class.now c.loop-here.here c.origin_at-origin.result c.origin_at-origin.ensures.0 c.loop-here-test.true
    c.requires.ways c.origin_at-origin.ensures.1

pub loop-here-preserved : goal.loop-here-preserved
loop-here-preserved c =
    let lower = parent_before c.args.grid.now c.args.class.now c.loop-here.here c.origin_at-origin.result c.origin_at-origin.ensures.0
    c.loop-here-test.true c.requires.ways c.origin_at-origin.ensures.1 in (
      omega (arith, lower, c.loop-here.invariant.0),
      still_has c.loop-here.back.items _ c.push_link_back-in-loop-here.new.list.items c.args.last.step c.in_ok-push_link_back-2.ensures.list
          c.loop-here.invariant.1,
      λ key member to stands names same leads small.
          trails_more c.args.grid.now c.args.class.now c.loop-here.here c.origin_at-origin.result c.origin_at-origin.ensures.0 c.loop-here.back.items
          c.push_link_back-in-loop-here.new.list.items to c.loop-here-test.true c.requires.ways c.origin_at-origin.ensures.1
          c.in_ok-push_link_back-2.ensures.list (c.loop-here.invariant.2 key member to stands names same leads small),
      λ kind has step. all_on kind has c.args.grid.now c.args.class.now c.loop-here.here c.origin_at-origin.result c.origin_at-origin.ensures.0
          c.loop-here.back.items c.push_link_back-in-loop-here.new.list.items c.loop-here-test.true c.requires.ways c.origin_at-origin.ensures.1
          c.in_ok-push_link_back-2.ensures.list (c.loop-here.invariant.3 kind has step),
    )

pub returns-clause-last : goal.returns-clause-last
returns-clause-last c =
    let kept : Contains c.push_shifts_back.new.list.items c.args.last.step = still_has c.loop-here.back.items _ c.push_shifts_back.new.list.items
    c.args.last.step c.in_ok-push_shifts_back.ensures.list c.loop-here.invariant.1 in
    subst (λ (ms : List Move). Contains ms c.args.last.step) (sym c.reverse.ensures.items) (reverse_has c.push_shifts_back.new.list.items c.args.last.step kept)

pub returns-clause-kept : goal.returns-clause-kept
returns-clause-kept c = λ step.
    subst AreMonotonic (sym c.reverse.ensures.items)
    (all_end is_monotonic monotonic_exchange c.loop-here.back.items c.push_shifts_back.new.list.items c.canonical-form.result.columns
    c.canonical-form.result.rows c.in_ok-push_shifts_back.ensures.list (c.loop-here.invariant.3 is_monotonic monotonic_exchange step))

pub returns-clause-exchanges : goal.returns-clause-exchanges
returns-clause-exchanges c = λ step.
    subst (AreAll is_shift_or_exchange) (sym c.reverse.ensures.items)
    (all_end is_shift_or_exchange (λ move is. is) c.loop-here.back.items c.push_shifts_back.new.list.items c.canonical-form.result.columns
    c.canonical-form.result.rows c.in_ok-push_shifts_back.ensures.list (c.loop-here.invariant.3 is_shift_or_exchange (λ move is. is) step))

pub returns-clause-joined : goal.returns-clause-joined
returns-clause-joined c = λ key member to stands names same leads small.
    subst (λ (ms : List Move). JoinsWithin (size c.args.grid.now) c.args.grid.now ms to) (sym c.reverse.ensures.items)
    (trails_end c.args.grid.now c.args.class.now c.loop-here.here c.canonical-form.result c.loop-here.back.items c.push_shifts_back.new.list.items to
    c.size-size.ensures.grid (omega (arith, c.loop-here-test.false)) c.requires.ways c.canonical-form.ensures.form
    c.in_ok-push_shifts_back.ensures.list (c.loop-here.invariant.2 key member to stands names same leads small))
