use Rattle.std.proofs.Common.{◌∷◌, ◌++◌, ◌∙◌, ◌==◌, [], List, ℕ, Bool, ap, sym, cond, append-nil, filter, arith}
use Rattle.std.specs.List.{range_with_len}
use Rattle.std.proofs.lemmas.Bool.{eq-eqb, ne_eqb}
use Rattle.linking_core.specs.Component.{component_number}
use Rattle.linking_core.proofs.Loops.{filter_next}
use Rattle.evidence_core.proofs.links.components_of.Goals as goal
use Rattle.evidence_core.proofs.links.components_of.Goals.{then-component-c, else-component-c}

pub loop-c-preserved : goal.loop-c-preserved
loop-c-preserved c =
    let d = c.args.grid.now in
    let n = c.loop-c.c in
    let before = filter (λ a. component_number d a == a) (range_with_len 0 n) in
    let more = filter_next (λ a. component_number d a == a) n in
    elim c.if-component-c.branch [
      | then-component-c w ↦
          let all =
          more ∙ ap (λ (b : Bool). before ++ cond b (n ∷ []) []) (eq-eqb (component_number d n) n (sym c.component.ensures.number ∙ w.if-component-c.true)) in (
            rw w.found-is (w.push.ensures.items ∙ (ap (λ (xs : List ℕ). xs ++ n ∷ []) c.loop-c.invariant.0 ∙ sym all)),
            rw w.found-is (omega (arith, w.push.ensures.len)),
          )
      | else-component-c w ↦
          let all = more ∙ ap (λ (b : Bool). before ++ cond b (n ∷ []) [])
          (ne_eqb (component_number d n) n (λ e. w.if-component-c.false (c.component.ensures.number ∙ e))) in (
            rw w.found-is (c.loop-c.invariant.0 ∙ sym (all ∙ append-nil before)),
            rw w.found-is (omega arith),
          )
    ]
