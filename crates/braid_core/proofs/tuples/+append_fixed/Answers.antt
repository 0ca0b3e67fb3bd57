use Rattle.std.proofs.Common.{◌≡◌, refl, ◌+◌, ◌-◌, ◌∙◌, ◌++◌, ◌∷◌, [], ℕ, List, length, length-append, arith, ap}
use Rattle.braid_core.specs.FixedPoints.{is_fixed, tuples_of}
use Rattle.braid_core.proofs.AllTuples.{found_more, found_all, popped}
use Rattle.braid_core.proofs.tuples.+append_fixed.Goals as goal

pub loop-colour-preserved : goal.loop-colour-preserved
loop-colour-preserved t c =
    let front = c.args.colours.now.items in
    let pushed = c.push-in-loop-colour.new.self.items in
    let pushed_is : pushed ≡ front ++ c.loop-colour.colour ∷ [] =
    c.push-in-loop-colour.ensures.items ∙ ap (λ (xs : List ℕ). xs ++ c.loop-colour.colour ∷ []) c.loop-colour.invariant.0 in (
      popped front pushed c.append_fixed.new.colours.items c.pop.new.self.items c.loop-colour.colour _ pushed_is c.in_ok-append_fixed.ensures.colours refl c.pop.ensures.rest,
      found_more (is_fixed c.args.quandle.now c.args.braid.now) (tuples_of c.args.found.now.items) (tuples_of c.loop-colour.found.items)
          (tuples_of c.append_fixed.new.found.items) front pushed c.args.quandle.now.order
          (c.args.braid.now.strands - (length front + 1)) c.loop-colour.colour
          (c.args.braid.now.strands - length pushed) c.loop-colour.invariant.1 c.in_ok-append_fixed.ensures.found pushed_is
          (omega (arith, ap length pushed_is, length-append front (c.loop-colour.colour ∷ []))),
    )

pub returns-clause-found : goal.returns-clause-found
returns-clause-found t c =
    found_all (is_fixed c.args.quandle.now c.args.braid.now) (tuples_of c.args.found.now.items)
    (tuples_of c.loop-colour.found.items) c.args.colours.now.items c.args.quandle.now.order
    (c.args.braid.now.strands - (length c.args.colours.now.items + 1))
    (c.args.braid.now.strands - length c.args.colours.now.items) c.loop-colour.colour c.loop-colour.invariant.1
    (omega arith) (omega arith)
