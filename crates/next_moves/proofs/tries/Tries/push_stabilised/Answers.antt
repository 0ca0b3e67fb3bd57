use Rattle.std.proofs.Common.{◌∙◌, ◌∷◌, [], ap, arith, subst, sym}
use Rattle.grid_core.specs.Diagram.{Diagram}
use Rattle.grid_moves.specs.declared.step.Move.{Move}
use Rattle.grid_moves.specs.declared.step.Move.TheVariants.{Stabilise}
use Rattle.grid_moves.specs.Step.{Step}
use Rattle.grid_moves.specs.Widening.{widened}
use Rattle.grid_laws.proofs.Sizes.{step_size}
use Rattle.grid_keys.specs.Translation.{translate}
use Rattle.grid_keys.proofs.Joined.{translate_none}
use Rattle.next_moves.specs.Tries.{unshifted}
use Rattle.next_moves.specs.Extends.{Extends}
use Rattle.next_moves.proofs.tries.Tries.push_stabilised.Goals as goal

pub push_moved-requires-clause-step : goal.push_moved-requires-clause-step
push_moved-requires-clause-step c =
    let moved : Diagram = c.widened.result in
    let of_grid = ap (λ e. widened c.widening_of-widening.result e) (c.requires.short ∙ sym c.grid.ensures) in
    let step = subst (λ e. Step e (Stabilise c.args.at.column c.args.at.kind c.args.at.corner) moved) c.grid.ensures
    (subst (λ e. Step c.grid.result.now (Stabilise c.args.at.column c.args.at.kind c.args.at.corner) e)
    (sym (c.widened.ensures ∙ of_grid)) c.widening_of-widening.ensures.step) in
    subst (λ (m : Move). Step (translate c.args.self.now.diagram 0 0) m moved) (sym c.step.ensures)
    (subst (λ e. Step e (Stabilise c.args.at.column c.args.at.kind c.args.at.corner) moved)
    (sym (translate_none c.args.self.now.diagram c.size-size.ensures.grid)) step)

pub push_moved-requires-clause-cap : goal.push_moved-requires-clause-cap
push_moved-requires-clause-cap c =
    let d = c.args.self.now.diagram in
    let move : Move = Stabilise c.args.at.column c.args.at.kind c.args.at.corner in
    let moved : Diagram = c.widened.result in
    let of_grid = ap (λ e. widened c.widening_of-widening.result e) (c.requires.short ∙ sym c.grid.ensures) in
    let step = subst (λ e. Step e move moved) c.grid.ensures
    (subst (λ e. Step c.grid.result.now move e) (sym (c.widened.ensures ∙ of_grid)) c.widening_of-widening.ensures.step) in
    omega (arith, step_size move d moved step, c.requires.cap)

pub returns : goal.returns
returns c =
    let d = c.args.self.now.diagram in
    record {
      offered =
          subst (λ (m : Move). Extends d c.args.self.now.cap (unshifted m ∷ []) c.args.list.now.items c.push_moved.new.list.items) c.step.ensures
          c.push_moved.ensures.offered;
      fits = c.push_moved.ensures.fits;
    }
