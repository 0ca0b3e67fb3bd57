use Rattle.std.proofs.Common.{◌≡◌, ◌∙◌, ℕ, sym, ap, arith}
use Rattle.quandle_core.specs.Fault.{first}
use Rattle.quandle_core.proofs.Firsts.{first_found, first_more, unless_true, unless_false}
use Rattle.cocycle_core.specs.Cocycle.{Cochain}
use Rattle.cocycle_core.specs.Fault.{law_case, obeys}
use Rattle.cocycle_core.specs.declared.fault.CocycleFault.TheVariants.{Law}
use Rattle.cocycle_core.proofs.draft.Draft.law_fault.Goals as goal

pub returns-then-not-obeys : goal.returns-then-not-obeys
returns-then-not-obeys c =
    let w : Cochain = c.args.self.now in
    let order = c.order-order.ensures.order in
    sym (first_found (λ x. first w.quandle.order (λ y. first w.quandle.order (λ z. law_case w x y z))) w.quandle.order c.loop-x.x
    (Law c.loop-x.x c.loop-y.y c.loop-z.z) (omega (arith, order, c.loop-x-test.true)) c.loop-x.invariant
    (first_found (λ y. first w.quandle.order (λ z. law_case w c.loop-x.x y z)) w.quandle.order c.loop-y.y (Law c.loop-x.x c.loop-y.y c.loop-z.z)
    (omega (arith, order, c.loop-y-test.true)) c.loop-y.invariant
    (first_found (λ z. law_case w c.loop-x.x c.loop-y.y z) w.quandle.order c.loop-z.z (Law c.loop-x.x c.loop-y.y c.loop-z.z)
    (omega (arith, order, c.loop-z-test.true)) c.loop-z.invariant
    (unless_false (obeys w c.loop-x.x c.loop-y.y c.loop-z.z) (Law c.loop-x.x c.loop-y.y c.loop-z.z) (sym c.obeys.ensures ∙ c.if-not-obeys.true)))))

pub loop-z-preserved : goal.loop-z-preserved
loop-z-preserved c =
    let w : Cochain = c.args.self.now in
    first_more (λ z. law_case w c.loop-x.x c.loop-y.y z) c.loop-z.z c.loop-z.invariant
    (unless_true (obeys w c.loop-x.x c.loop-y.y c.loop-z.z) (Law c.loop-x.x c.loop-y.y c.loop-z.z) (sym c.obeys.ensures ∙ c.if-not-obeys.false))

pub loop-y-preserved : goal.loop-y-preserved
loop-y-preserved c =
    let w : Cochain = c.args.self.now in
    let order = c.order-order.ensures.order in
    let whole : c.args.self.now.quandle.order ≡ c.loop-z.z = omega (arith, order) in
    first_more (λ y. first w.quandle.order (λ z. law_case w c.loop-x.x y z)) c.loop-y.y c.loop-y.invariant
    (ap (λ (n : ℕ). first n (λ z. law_case w c.loop-x.x c.loop-y.y z)) whole ∙ c.loop-z.invariant)

pub loop-x-preserved : goal.loop-x-preserved
loop-x-preserved c =
    let w : Cochain = c.args.self.now in
    let order = c.order-order.ensures.order in
    let whole : c.args.self.now.quandle.order ≡ c.loop-y.y = omega (arith, order) in
    first_more (λ x. first w.quandle.order (λ y. first w.quandle.order (λ z. law_case w x y z))) c.loop-x.x c.loop-x.invariant
    (ap (λ (n : ℕ). first n (λ y. first w.quandle.order (λ z. law_case w c.loop-x.x y z))) whole ∙ c.loop-y.invariant)

pub returns : goal.returns
returns c =
    let w : Cochain = c.args.self.now in
    let order = c.order-order.ensures.order in
    let whole : c.args.self.now.quandle.order ≡ c.loop-x.x = omega (arith, order) in
    sym (ap (λ (n : ℕ). first n (λ x. first w.quandle.order (λ y. first w.quandle.order (λ z. law_case w x y z)))) whole ∙ c.loop-x.invariant)
