use Rattle.std.proofs.Common.{◌≡◌, ◌∙◌, ℕ, sym, ap, arith}
use Rattle.quandle_core.specs.Fault.{first}
use Rattle.quandle_core.proofs.Firsts.{first_found, first_more, unless_true, unless_false}
use Rattle.cocycle_core.specs.ShadowCocycle.{ShadowCochain}
use Rattle.cocycle_core.specs.ShadowFault.{shadow_law_case, shadow_obeys}
use Rattle.cocycle_core.specs.declared.shadow_fault.ShadowFault.TheVariants.{Law}
use Rattle.cocycle_core.proofs.shadow_fault.law_fault.Goals as goal

pub returns-then-not-obeys : goal.returns-then-not-obeys
returns-then-not-obeys c =
    let t : ShadowCochain = record { quandle = c.args.quandle.now; modulus = c.args.modulus; entries = c.args.table.now } in
    let order = c.order-order.ensures.order in
    sym (first_found (λ a. first t.quandle.order (λ b. first t.quandle.order
    (λ e. first t.quandle.order (λ d. shadow_law_case t a b e d)))) t.quandle.order c.loop-a.a (Law c.loop-a.a c.loop-b.b c.loop-c.c c.loop-d.d)
    (omega (arith, order, c.loop-a-test.true)) c.loop-a.invariant
    (first_found (λ b. first t.quandle.order (λ e. first t.quandle.order (λ d. shadow_law_case t c.loop-a.a b e d))) t.quandle.order c.loop-b.b
    (Law c.loop-a.a c.loop-b.b c.loop-c.c c.loop-d.d) (omega (arith, order, c.loop-b-test.true)) c.loop-b.invariant
    (first_found (λ e. first t.quandle.order (λ d. shadow_law_case t c.loop-a.a c.loop-b.b e d)) t.quandle.order c.loop-c.c
    (Law c.loop-a.a c.loop-b.b c.loop-c.c c.loop-d.d) (omega (arith, order, c.loop-c-test.true)) c.loop-c.invariant
    (first_found (λ d. shadow_law_case t c.loop-a.a c.loop-b.b c.loop-c.c d) t.quandle.order c.loop-d.d (Law c.loop-a.a c.loop-b.b c.loop-c.c c.loop-d.d)
    (omega (arith, order, c.loop-d-test.true)) c.loop-d.invariant
    (unless_false (shadow_obeys t c.loop-a.a c.loop-b.b c.loop-c.c c.loop-d.d) (Law c.loop-a.a c.loop-b.b c.loop-c.c c.loop-d.d) (sym c.obeys.ensures
    ∙ c.if-not-obeys.true))))))

pub loop-d-preserved : goal.loop-d-preserved
loop-d-preserved c =
    let t : ShadowCochain = record { quandle = c.args.quandle.now; modulus = c.args.modulus; entries = c.args.table.now } in
    first_more (λ d. shadow_law_case t c.loop-a.a c.loop-b.b c.loop-c.c d) c.loop-d.d c.loop-d.invariant
    (unless_true (shadow_obeys t c.loop-a.a c.loop-b.b c.loop-c.c c.loop-d.d) (Law c.loop-a.a c.loop-b.b c.loop-c.c c.loop-d.d) (sym c.obeys.ensures
    ∙ c.if-not-obeys.false))

pub loop-c-preserved : goal.loop-c-preserved
loop-c-preserved c =
    let t : ShadowCochain = record { quandle = c.args.quandle.now; modulus = c.args.modulus; entries = c.args.table.now } in
    let order = c.order-order.ensures.order in
    let whole : c.args.quandle.now.order ≡ c.loop-d.d = omega (arith, order) in
    first_more (λ e. first t.quandle.order (λ d. shadow_law_case t c.loop-a.a c.loop-b.b e d)) c.loop-c.c c.loop-c.invariant
    (ap (λ (n : ℕ). first n (λ d. shadow_law_case t c.loop-a.a c.loop-b.b c.loop-c.c d)) whole ∙ c.loop-d.invariant)

pub loop-b-preserved : goal.loop-b-preserved
loop-b-preserved c =
    let t : ShadowCochain = record { quandle = c.args.quandle.now; modulus = c.args.modulus; entries = c.args.table.now } in
    let order = c.order-order.ensures.order in
    let whole : c.args.quandle.now.order ≡ c.loop-c.c = omega (arith, order) in
    first_more (λ b. first t.quandle.order (λ e. first t.quandle.order (λ d. shadow_law_case t c.loop-a.a b e d))) c.loop-b.b c.loop-b.invariant
    (ap (λ (n : ℕ). first n (λ e. first t.quandle.order (λ d. shadow_law_case t c.loop-a.a c.loop-b.b e d))) whole ∙ c.loop-c.invariant)

pub loop-a-preserved : goal.loop-a-preserved
loop-a-preserved c =
    let t : ShadowCochain = record { quandle = c.args.quandle.now; modulus = c.args.modulus; entries = c.args.table.now } in
    let order = c.order-order.ensures.order in
    let whole : c.args.quandle.now.order ≡ c.loop-b.b = omega (arith, order) in
    first_more
    (λ a. first t.quandle.order (λ b. first t.quandle.order (λ e. first t.quandle.order (λ d. shadow_law_case t a b e d)))) c.loop-a.a c.loop-a.invariant
    (ap (λ (n : ℕ). first n (λ b. first t.quandle.order (λ e. first t.quandle.order (λ d. shadow_law_case t c.loop-a.a b e d)))) whole ∙ c.loop-b.invariant)

pub returns : goal.returns
returns c =
    let t : ShadowCochain = record { quandle = c.args.quandle.now; modulus = c.args.modulus; entries = c.args.table.now } in
    let order = c.order-order.ensures.order in
    let whole : c.args.quandle.now.order ≡ c.loop-a.a = omega (arith, order) in
    sym (ap (λ (n : ℕ). first n (λ a. first t.quandle.order (λ b. first t.quandle.order (λ e. first t.quandle.order (λ d. shadow_law_case t a b e d))))) whole
    ∙ c.loop-a.invariant)
