use Rattle.std.proofs.Common.{◌≡◌, ◌∙◌, ap₂, sym, subst, ℕ, set, arith, ◌<◌, ◌++◌, ◌∷◌, [], length}
use Rattle.frontier_core.specs.declared.queue.Queue.{Queue}
use Rattle.frontier_core.specs.Chain.{held_by}
use Rattle.frontier_core.specs.Held.{HeldIds, pushed}
use Rattle.frontier_core.specs.Order.{IsOrderOf, sized}
use Rattle.frontier_core.proofs.Pushing as pushing
use Rattle.frontier_core.proofs.Orders.{order_pushed}
use Rattle.frontier_core.proofs.frontier.Frontier.push.Goals as goal

pub index_mut-requires : goal.index_mut-requires
index_mut-requires c =
    omega (arith, c.end_before-end.ensures, c.self.inside.next.ok.0, pushing.end_below c.self.inside.next.items c.self.inside.queues c.self.inside.mask c.self.invariant c.args.self.now c.self.view_is c.args.id c.args.size c.requires.below c.requires.free c.requires.size)

pub longer-requires : goal.longer-requires
longer-requires c = pushing.counts c.self.inside.next.items c.self.inside.queues c.self.inside.mask c.self.invariant c.args.self.now c.self.view_is c.args.id c.args.size c.requires.below c.requires.free c.requires.size

pub invariant_of-self : goal.invariant_of-self
invariant_of-self c =
    rw (c.end_before-end.ensures, c.longer.ensures)
    (pushing.still_linked c.self.inside.next.items c.self.inside.queues c.self.inside.mask c.self.invariant c.args.self.now c.self.view_is c.args.id c.args.size c.requires.below c.requires.free c.requires.size c.with_size-self-inside.result c.with_size-self-inside.ensures.set c.with_size-self-inside.ensures.others)

lists : (c : goal.After-self-2-1) → held_by (set c.self.inside.next.items c.end_before-end.result c.args.id)
    (set c.self.inside.queues c.args.size c.longer.result) ≡ pushed c.args.self.now c.args.id c.args.size
lists c =
    ap₂ (λ (e : ℕ) (r : Queue). held_by (set c.self.inside.next.items e c.args.id)
    (set c.self.inside.queues c.args.size r)) c.end_before-end.ensures c.longer.ensures
    ∙ pushing.held_after c.self.inside.next.items c.self.inside.queues c.self.inside.mask c.self.invariant c.args.self.now c.self.view_is c.args.id c.args.size c.requires.below c.requires.free c.requires.size

pub returns-clause-lists : goal.returns-clause-lists
returns-clause-lists c = lists c

pub returns-clause-order : goal.returns-clause-order
returns-clause-order c = λ order is.
    let same = lists c in
    let within : c.args.size < length c.args.self.now.by_size =
    pushing.has_size c.self.inside.next.items c.self.inside.queues c.self.inside.mask c.self.invariant c.args.self.now c.self.view_is c.args.id c.args.size c.requires.below c.requires.free c.requires.size in
    subst (λ (h : HeldIds). IsOrderOf (order ++ sized c.args.id c.args.size ∷ []) h) (sym same)
    (order_pushed order c.args.self.now c.args.id c.args.size within is)
