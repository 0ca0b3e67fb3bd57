use Rattle.std.proofs.Common.{◌≡◌, ◌∙◌, ap, sym, subst, refl, ℕ, set, get_or, nat_lt, arith, List, Option, None}
use Rattle.std.proofs.lemmas.List.{get_or_read}
use Rattle.frontier_core.specs.declared.queue.Queue.{Queue}
use Rattle.frontier_core.specs.Chain.{held_by, queue_at, shorter, IsLinked}
use Rattle.frontier_core.specs.Held.{HeldIds, first_of_least, without_first_of_least}
use Rattle.frontier_core.specs.Order.{SizedId, IsOrderOf, PopsLeast}
use Rattle.frontier_core.proofs.Orders.{order_popped}
use Rattle.frontier_core.proofs.Popping as popping
use Rattle.frontier_core.proofs.frontier.Frontier.pop_least.Goals as goal

-- the answer and what is left are those of the lists
popped : (order : List SizedId) (held : HeldIds) (answer : Option ℕ) (new : HeldIds) → answer ≡ first_of_least held → new ≡ without_first_of_least held
    → IsOrderOf order held → PopsLeast order answer new
popped order held answer new first rest is =
    subst (λ o. PopsLeast order o new) (sym first) (subst (λ (h : HeldIds). PopsLeast order (first_of_least held) h) (sym rest) (order_popped order held is))

pub returns-then-self-eq0-clause-first : goal.returns-then-self-eq0-clause-first
returns-then-self-eq0-clause-first c = sym
    (popping.none_held c.self.inside.next.items c.self.inside.queues c.self.inside.mask c.self.invariant c.args.self.now c.self.view_is c.if-self-eq0.true).0

pub returns-then-self-eq0-clause-rest : goal.returns-then-self-eq0-clause-rest
returns-then-self-eq0-clause-rest c = sym
    (popping.none_held c.self.inside.next.items c.self.inside.queues c.self.inside.mask c.self.invariant c.args.self.now c.self.view_is c.if-self-eq0.true).1

pub index-second-requires : goal.index-second-requires
index-second-requires c =
    omega (arith, c.self.inside.next.ok.0, popping.first_below c.self.inside.next.items c.self.inside.queues c.self.inside.mask c.self.invariant c.args.self.now c.self.view_is c.least_size-size.result c.least_size-size.ensures.in_mask c.least_size-size.ensures.set c.least_size-size.ensures.least)

-- the queue that is written back
rest_is : (c : goal.After-self-1) → c.shorter.result
    ≡ shorter (queue_at c.self.inside.queues c.least_size-size.result)
    (get_or c.self.inside.next.items (queue_at c.self.inside.queues c.least_size-size.result).first 0)
rest_is c =
    let within = popping.first_below c.self.inside.next.items c.self.inside.queues c.self.inside.mask c.self.invariant c.args.self.now c.self.view_is c.least_size-size.result c.least_size-size.ensures.in_mask c.least_size-size.ensures.set c.least_size-size.ensures.least in
    c.shorter.ensures ∙ ap (shorter (queue_at c.self.inside.queues c.least_size-size.result))
    (get_or_read c.self.inside.next.items _ _ within c.index-second.ensures 0)

pub invariant_of-self : goal.invariant_of-self
invariant_of-self c =
    subst (λ (r : Queue). IsLinked c.self.inside.next.items (set c.self.inside.queues c.least_size-size.result r) c.kept_size-self-inside.result)
    (sym (rest_is c)) (popping.still_linked c.self.inside.next.items c.self.inside.queues c.self.inside.mask c.self.invariant c.args.self.now c.self.view_is c.least_size-size.result c.least_size-size.ensures.in_mask c.least_size-size.ensures.set c.least_size-size.ensures.least c.kept_size-self-inside.result (nat_lt 1 (queue_at c.self.inside.queues c.least_size-size.result).count) refl c.kept_size-self-inside.ensures.this c.kept_size-self-inside.ensures.others)

pub returns-clause-first : goal.returns-clause-first
returns-clause-first c = popping.first_out c.self.inside.next.items c.self.inside.queues c.self.inside.mask c.self.invariant c.args.self.now c.self.view_is c.least_size-size.result c.least_size-size.ensures.in_mask c.least_size-size.ensures.set c.least_size-size.ensures.least

pub returns-clause-rest : goal.returns-clause-rest
returns-clause-rest c =
    ap (λ (r : Queue). held_by c.self.inside.next.items (set c.self.inside.queues c.least_size-size.result r)) (rest_is c)
    ∙ popping.held_after c.self.inside.next.items c.self.inside.queues c.self.inside.mask c.self.invariant c.args.self.now c.self.view_is c.least_size-size.result c.least_size-size.ensures.in_mask c.least_size-size.ensures.set c.least_size-size.ensures.least

pub returns-clause-order : goal.returns-clause-order
returns-clause-order c = λ order is. popped order c.args.self.now _ _ (returns-clause-first c) (returns-clause-rest c) is

pub returns-then-self-eq0-clause-order : goal.returns-then-self-eq0-clause-order
returns-then-self-eq0-clause-order c = λ order is. popped order c.args.self.now None c.args.self.now (returns-then-self-eq0-clause-first c)
    (returns-then-self-eq0-clause-rest c) is

pub returns-clause-below : goal.returns-clause-below
returns-clause-below c =
    let within = popping.first_below c.self.inside.next.items c.self.inside.queues c.self.inside.mask c.self.invariant c.args.self.now c.self.view_is c.least_size-size.result c.least_size-size.ensures.in_mask c.least_size-size.ensures.set c.least_size-size.ensures.least in
    let room = ap (λ (h : HeldIds). h.capacity) c.self.view_is in
    omega (arith, within, room)
