use Rattle.std.proofs.Common.{◌≡◌, ◌∙◌, ℕ, nat_lt, sym, ap, arith}
use Rattle.std.proofs.lemmas.Bool.{le-ltb, lt-ltb}
use Rattle.quandle_core.specs.Fault.{first}
use Rattle.quandle_core.proofs.Firsts.{first_found, first_more, unless_true, unless_false}
use Rattle.cocycle_core.specs.Cocycle.{Cochain, value}
use Rattle.cocycle_core.specs.Fault.{cocycle_range_case}
use Rattle.cocycle_core.specs.declared.fault.CocycleFault.TheVariants.{Range}
use Rattle.cocycle_core.proofs.draft.Draft.range_fault.Goals as goal

pub returns-then-entry-modulus : goal.returns-then-entry-modulus
returns-then-entry-modulus c =
    let w : Cochain = c.args.self.now in
    let order = c.order-order.ensures.order in
    let is = c.entry.ensures in
    sym (first_found (λ x. first w.quandle.order (λ y. cocycle_range_case w x y)) w.quandle.order c.loop-x.x (Range c.loop-x.x c.loop-y.y)
    (omega (arith, order, c.loop-x-test.true)) c.loop-x.invariant
    (first_found (λ y. cocycle_range_case w c.loop-x.x y) w.quandle.order c.loop-y.y (Range c.loop-x.x c.loop-y.y)
    (omega (arith, order, c.loop-y-test.true)) c.loop-y.invariant
    (unless_false (nat_lt (value w c.loop-x.x c.loop-y.y) w.modulus) (Range c.loop-x.x c.loop-y.y)
    (le-ltb (value w c.loop-x.x c.loop-y.y) w.modulus (omega (arith, is, c.modulus.ensures))))))

pub loop-y-preserved : goal.loop-y-preserved
loop-y-preserved c =
    let w : Cochain = c.args.self.now in
    let is = c.entry.ensures in
    first_more (λ y. cocycle_range_case w c.loop-x.x y) c.loop-y.y c.loop-y.invariant
    (unless_true (nat_lt (value w c.loop-x.x c.loop-y.y) w.modulus) (Range c.loop-x.x c.loop-y.y)
    (lt-ltb (value w c.loop-x.x c.loop-y.y) w.modulus (omega (arith, is, c.modulus.ensures))))

pub loop-x-preserved : goal.loop-x-preserved
loop-x-preserved c =
    let w : Cochain = c.args.self.now in
    let order = c.order-order.ensures.order in
    let whole : c.args.self.now.quandle.order ≡ c.loop-y.y = omega (arith, order) in
    first_more (λ x. first w.quandle.order (λ y. cocycle_range_case w x y)) c.loop-x.x c.loop-x.invariant
    (ap (λ (n : ℕ). first n (λ y. cocycle_range_case w c.loop-x.x y)) whole ∙ c.loop-y.invariant)

pub returns : goal.returns
returns c =
    let w : Cochain = c.args.self.now in
    let order = c.order-order.ensures.order in
    let whole : c.args.self.now.quandle.order ≡ c.loop-x.x = omega (arith, order) in
    sym (ap (λ (n : ℕ). first n (λ x. first w.quandle.order (λ y. cocycle_range_case w x y))) whole ∙ c.loop-x.invariant)
