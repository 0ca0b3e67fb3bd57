use Rattle.std.proofs.Common.{◌≡◌, ◌∙◌, ℕ, ◌==◌, sym, ap, arith, eq-eqb}
use Rattle.std.proofs.lemmas.Bool.{ne_eqb}
use Rattle.quandle_core.specs.Fault.{first}
use Rattle.quandle_core.proofs.Firsts.{first_found, first_more, unless_true, unless_false}
use Rattle.cocycle_core.specs.ShadowCocycle.{ShadowCochain, shadow_value}
use Rattle.cocycle_core.specs.ShadowFault.{shadow_diagonal_case}
use Rattle.cocycle_core.specs.declared.shadow_fault.ShadowFault.TheVariants.{Diagonal}
use Rattle.cocycle_core.proofs.shadow_fault.diagonal_fault.Goals as goal

pub returns-then-entry-ne0 : goal.returns-then-entry-ne0
returns-then-entry-ne0 c =
    let t : ShadowCochain = record { quandle = c.args.quandle.now; modulus = c.args.modulus; entries = c.args.table.now } in
    let order = c.order-order.ensures.order in
    sym (first_found (λ w. first t.quandle.order (λ x. shadow_diagonal_case t w x)) t.quandle.order c.loop-w.w (Diagonal c.loop-w.w c.loop-x.x)
    (omega (arith, order, c.loop-w-test.true)) c.loop-w.invariant
    (first_found (λ x. shadow_diagonal_case t c.loop-w.w x) t.quandle.order c.loop-x.x (Diagonal c.loop-w.w c.loop-x.x)
    (omega (arith, order, c.loop-x-test.true)) c.loop-x.invariant
    (unless_false (shadow_value t c.loop-w.w c.loop-x.x c.loop-x.x == 0) (Diagonal c.loop-w.w c.loop-x.x)
    (ne_eqb (shadow_value t c.loop-w.w c.loop-x.x c.loop-x.x) 0 (λ e. c.if-entry-ne0.true (c.entry.ensures c.args.modulus ∙ e))))))

pub loop-x-preserved : goal.loop-x-preserved
loop-x-preserved c =
    let t : ShadowCochain = record { quandle = c.args.quandle.now; modulus = c.args.modulus; entries = c.args.table.now } in
    first_more (λ x. shadow_diagonal_case t c.loop-w.w x) c.loop-x.x c.loop-x.invariant
    (unless_true (shadow_value t c.loop-w.w c.loop-x.x c.loop-x.x == 0) (Diagonal c.loop-w.w c.loop-x.x)
    (eq-eqb (shadow_value t c.loop-w.w c.loop-x.x c.loop-x.x) 0 (sym (c.entry.ensures c.args.modulus) ∙ c.if-entry-ne0.false)))

pub loop-w-preserved : goal.loop-w-preserved
loop-w-preserved c =
    let t : ShadowCochain = record { quandle = c.args.quandle.now; modulus = c.args.modulus; entries = c.args.table.now } in
    let order = c.order-order.ensures.order in
    let whole : c.args.quandle.now.order ≡ c.loop-x.x = omega (arith, order) in
    first_more (λ w. first t.quandle.order (λ x. shadow_diagonal_case t w x)) c.loop-w.w c.loop-w.invariant
    (ap (λ (n : ℕ). first n (λ x. shadow_diagonal_case t c.loop-w.w x)) whole ∙ c.loop-x.invariant)

pub returns : goal.returns
returns c =
    let t : ShadowCochain = record { quandle = c.args.quandle.now; modulus = c.args.modulus; entries = c.args.table.now } in
    let order = c.order-order.ensures.order in
    let whole : c.args.quandle.now.order ≡ c.loop-w.w = omega (arith, order) in
    sym (ap (λ (n : ℕ). first n (λ w. first t.quandle.order (λ x. shadow_diagonal_case t w x))) whole ∙ c.loop-w.invariant)
