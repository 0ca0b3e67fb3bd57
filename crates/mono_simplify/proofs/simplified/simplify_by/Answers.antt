use Rattle.std.proofs.Common.{◌≡◌, ◌+◌, arith, subst, sym, List, refl}
use Rattle.grid_core.specs.Diagram.{size}
use Rattle.grid_moves.specs.declared.step.Move.{Move}
use Rattle.mono_simplify.specs.declared.explore.Explored.{Explored}
use Rattle.mono_simplify.specs.declared.explore.Explored.TheVariants.{Smaller, Whole, More}
use Rattle.mono_simplify.specs.declared.simplified.SimpleEnd.TheVariants.{Irreducible, Spent}
use Rattle.mono_simplify.specs.Simplified.{Simplifies}
use Rattle.mono_simplify.specs.Ways.{IsExploredTo}
use Rattle.mono_simplify.proofs.Simpler.{not_simpler, simpler_more}
use Rattle.mono_simplify.proofs.simplified.simplify_by.Goals as goal

pub loop-moves-init : goal.loop-moves-init
loop-moves-init c = not_simpler c.args.grid.now c.copy-here.result c.new-moves.result.items c.copy-here.ensures c.new-moves.ensures.items

pub loop-moves-smaller : goal.loop-moves-smaller
loop-moves-smaller c =
    let shown : IsExploredTo c.loop-moves.here c.args.budget (Smaller c.in-Smaller.smaller c.in-Smaller.way) = subst
    (λ (e : Explored). IsExploredTo c.loop-moves.here c.args.budget e) c.in-Smaller.is c.in_ok-smaller.ensures in
    let by_one : size c.in-Smaller.smaller + 1 ≡ size c.loop-moves.here = shown.1 in
    omega (arith, by_one)

pub loop-moves-preserved : goal.loop-moves-preserved
loop-moves-preserved c =
    let shown : IsExploredTo c.loop-moves.here c.args.budget (Smaller c.in-Smaller.smaller c.in-Smaller.way) = subst
    (λ (e : Explored). IsExploredTo c.loop-moves.here c.args.budget e) c.in-Smaller.is c.in_ok-smaller.ensures in
    simpler_more c.args.grid.now c.loop-moves.here c.in-Smaller.smaller c.loop-moves.moves.items c.in-Smaller.way.items c.as_slice.result.now
    c.extend_from_slice.new.self.items c.in_ok-extend_from_slice-in-Smaller.ensures.items c.as_slice.ensures.value c.loop-moves.invariant shown.0
    shown.2 shown.3

pub returns-in-Whole : goal.returns-in-Whole
returns-in-Whole c =
    let shown : IsExploredTo c.loop-moves.here c.args.budget Whole = subst
    (λ (e : Explored). IsExploredTo c.loop-moves.here c.args.budget e) c.in-Whole.is c.in_ok-smaller.ensures in
    subst (λ (ms : List Move). Simplifies c.args.grid.now c.args.budget c.loop-moves.here ms Irreducible) (sym c.from_vec.ensures)
    (record { joined = c.loop-moves.invariant.0; kept = c.loop-moves.invariant.2; given = c.loop-moves.invariant.1; end = shown })

pub returns-in-More : goal.returns-in-More
returns-in-More c =
    let shown : IsExploredTo c.loop-moves.here c.args.budget More = subst
    (λ (e : Explored). IsExploredTo c.loop-moves.here c.args.budget e) c.in-More.is c.in_ok-smaller.ensures in
    subst (λ (ms : List Move). Simplifies c.args.grid.now c.args.budget c.loop-moves.here ms (Spent c.args.budget)) (sym c.from_vec-in-More.ensures)
    (record { joined = c.loop-moves.invariant.0; kept = c.loop-moves.invariant.2; given = c.loop-moves.invariant.1; end = (refl, shown) })
