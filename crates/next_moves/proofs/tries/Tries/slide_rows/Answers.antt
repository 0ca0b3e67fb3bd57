use Rattle.std.proofs.Common.{◌∙◌, ◌∷◌, [], ℕ, ap, subst}
use Rattle.grid_core.specs.Diagram.{size}
use Rattle.grid_moves.specs.declared.step.Move.TheVariants.{SlideRows}
use Rattle.next_moves.specs.Tries.{Try, shift_before, place_after_shift}
use Rattle.next_moves.specs.Extends.{Extends}
use Rattle.next_moves.proofs.Sides.{row_made}
use Rattle.next_moves.proofs.Trades.{rows_slid}
use Rattle.next_moves.proofs.Traded.{rows_slid_step}
use Rattle.next_moves.proofs.tries.Tries.slide_rows.Goals as goal

pub push_rows_exchanged-requires-clause-step : goal.push_rows_exchanged-requires-clause-step
push_rows_exchanged-requires-clause-step c =
    let d = c.args.self.now.diagram in
    let shift = c.shift_before-by.ensures.shift ∙ ap (λ (n : ℕ). shift_before n c.args.r) c.size.ensures.size in
    let stands = c.shift_before-by.ensures.place ∙ ap (λ (n : ℕ). place_after_shift n c.args.r) c.size.ensures.size in
    rows_slid_step d c.args.r _ _ c.size.ensures.grid c.requires.row shift stands c.requires.legal

pub returns : goal.returns
returns c =
    let d = c.args.self.now.diagram in
    let shift = c.shift_before-by.ensures.shift ∙ ap (λ (n : ℕ). shift_before n c.args.r) c.size.ensures.size in
    let stands = c.shift_before-by.ensures.place ∙ ap (λ (n : ℕ). place_after_shift n c.args.r) c.size.ensures.size in
    record {
      offered =
          rows_slid d c.args.self.now.cap (size d) c.args.r c.args.list.now.items c.push_rows_exchanged.new.list.items c.requires.no_exchange
          (subst (λ (t : Try). Extends d c.args.self.now.cap (t ∷ []) c.args.list.now.items c.push_rows_exchanged.new.list.items)
          (row_made (λ q. SlideRows q) (size d) c.args.r _ _ shift stands) c.push_rows_exchanged.ensures.offered);
      fits = c.push_rows_exchanged.ensures.fits;
    }
