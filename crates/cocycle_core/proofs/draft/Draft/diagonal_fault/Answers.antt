use Rattle.std.proofs.Common.{◌==◌, ◌∙◌, sym, eq-eqb, arith}
use Rattle.std.proofs.lemmas.Bool.{ne_eqb}
use Rattle.quandle_core.proofs.Firsts.{first_found, first_more, unless_true, unless_false}
use Rattle.cocycle_core.specs.Cocycle.{Cochain, value}
use Rattle.cocycle_core.specs.Fault.{diagonal_case}
use Rattle.cocycle_core.specs.declared.fault.CocycleFault.TheVariants.{Diagonal}
use Rattle.cocycle_core.proofs.draft.Draft.diagonal_fault.Goals as goal

pub returns-then-entry-ne0 : goal.returns-then-entry-ne0
returns-then-entry-ne0 c =
    let w : Cochain = c.args.self.now in
    let order = c.order-order.ensures.order in
    sym (first_found (λ x. diagonal_case w x) w.quandle.order c.loop-x.x (Diagonal c.loop-x.x) (omega (arith, order, c.loop-x-test.true)) c.loop-x.invariant
    (unless_false (value w c.loop-x.x c.loop-x.x == 0) (Diagonal c.loop-x.x)
    (ne_eqb (value w c.loop-x.x c.loop-x.x) 0 (λ e. c.if-entry-ne0.true (c.entry.ensures ∙ e)))))

pub loop-x-preserved : goal.loop-x-preserved
loop-x-preserved c =
    let w : Cochain = c.args.self.now in
    first_more (λ x. diagonal_case w x) c.loop-x.x c.loop-x.invariant
    (unless_true (value w c.loop-x.x c.loop-x.x == 0) (Diagonal c.loop-x.x)
    (eq-eqb (value w c.loop-x.x c.loop-x.x) 0 (sym (c.entry.ensures) ∙ c.if-entry-ne0.false)))
