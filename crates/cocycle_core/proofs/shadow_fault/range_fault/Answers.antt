use Rattle.std.proofs.Common.{◌≡◌, ◌∙◌, ℕ, nat_lt, sym, ap, arith}
use Rattle.std.proofs.lemmas.Bool.{le-ltb, lt-ltb}
use Rattle.quandle_core.specs.Fault.{first}
use Rattle.quandle_core.proofs.Firsts.{first_found, first_more, unless_true, unless_false}
use Rattle.cocycle_core.specs.ShadowCocycle.{ShadowCochain, shadow_value}
use Rattle.cocycle_core.specs.ShadowFault.{shadow_range_case}
use Rattle.cocycle_core.specs.declared.shadow_fault.ShadowFault.TheVariants.{Range}
use Rattle.cocycle_core.proofs.shadow_fault.range_fault.Goals as goal

pub returns-then-entry-modulus : goal.returns-then-entry-modulus
returns-then-entry-modulus c =
    let t : ShadowCochain = record { quandle = c.args.quandle.now; modulus = c.args.modulus; entries = c.args.table.now } in
    let order = c.order-order.ensures.order in
    sym (first_found (λ w. first t.quandle.order (λ x. first t.quandle.order (λ y. shadow_range_case t w x y))) t.quandle.order c.loop-w.w
    (Range c.loop-w.w c.loop-x.x c.loop-y.y) (omega (arith, order, c.loop-w-test.true)) c.loop-w.invariant
    (first_found (λ x. first t.quandle.order (λ y. shadow_range_case t c.loop-w.w x y)) t.quandle.order c.loop-x.x (Range c.loop-w.w c.loop-x.x c.loop-y.y)
    (omega (arith, order, c.loop-x-test.true)) c.loop-x.invariant
    (first_found (λ y. shadow_range_case t c.loop-w.w c.loop-x.x y) t.quandle.order c.loop-y.y (Range c.loop-w.w c.loop-x.x c.loop-y.y)
    (omega (arith, order, c.loop-y-test.true)) c.loop-y.invariant
    (unless_false (nat_lt (shadow_value t c.loop-w.w c.loop-x.x c.loop-y.y) t.modulus) (Range c.loop-w.w c.loop-x.x c.loop-y.y)
    (le-ltb (shadow_value t c.loop-w.w c.loop-x.x c.loop-y.y) t.modulus (omega (arith, c.entry.ensures c.args.modulus)))))))

pub loop-y-preserved : goal.loop-y-preserved
loop-y-preserved c =
    let t : ShadowCochain = record { quandle = c.args.quandle.now; modulus = c.args.modulus; entries = c.args.table.now } in
    first_more (λ y. shadow_range_case t c.loop-w.w c.loop-x.x y) c.loop-y.y c.loop-y.invariant
    (unless_true (nat_lt (shadow_value t c.loop-w.w c.loop-x.x c.loop-y.y) t.modulus) (Range c.loop-w.w c.loop-x.x c.loop-y.y)
    (lt-ltb (shadow_value t c.loop-w.w c.loop-x.x c.loop-y.y) t.modulus (omega (arith, c.entry.ensures c.args.modulus))))

pub loop-x-preserved : goal.loop-x-preserved
loop-x-preserved c =
    let t : ShadowCochain = record { quandle = c.args.quandle.now; modulus = c.args.modulus; entries = c.args.table.now } in
    let order = c.order-order.ensures.order in
    let whole : c.args.quandle.now.order ≡ c.loop-y.y = omega (arith, order) in
    first_more (λ x. first t.quandle.order (λ y. shadow_range_case t c.loop-w.w x y)) c.loop-x.x c.loop-x.invariant
    (ap (λ (n : ℕ). first n (λ y. shadow_range_case t c.loop-w.w c.loop-x.x y)) whole ∙ c.loop-y.invariant)

pub loop-w-preserved : goal.loop-w-preserved
loop-w-preserved c =
    let t : ShadowCochain = record { quandle = c.args.quandle.now; modulus = c.args.modulus; entries = c.args.table.now } in
    let order = c.order-order.ensures.order in
    let whole : c.args.quandle.now.order ≡ c.loop-x.x = omega (arith, order) in
    first_more (λ w. first t.quandle.order (λ x. first t.quandle.order (λ y. shadow_range_case t w x y))) c.loop-w.w c.loop-w.invariant
    (ap (λ (n : ℕ). first n (λ x. first t.quandle.order (λ y. shadow_range_case t c.loop-w.w x y))) whole ∙ c.loop-x.invariant)

pub returns : goal.returns
returns c =
    let t : ShadowCochain = record { quandle = c.args.quandle.now; modulus = c.args.modulus; entries = c.args.table.now } in
    let order = c.order-order.ensures.order in
    let whole : c.args.quandle.now.order ≡ c.loop-w.w = omega (arith, order) in
    sym (ap (λ (n : ℕ). first n (λ w. first t.quandle.order (λ x. first t.quandle.order (λ y. shadow_range_case t w x y)))) whole ∙ c.loop-w.invariant)
