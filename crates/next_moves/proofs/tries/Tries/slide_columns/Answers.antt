use Rattle.std.proofs.Common.{◌∙◌, ◌∷◌, [], ℕ, ap, subst}
use Rattle.grid_core.specs.Diagram.{size}
use Rattle.grid_moves.specs.declared.step.Move.TheVariants.{SlideColumns}
use Rattle.next_moves.specs.Tries.{Try, shift_before, place_after_shift}
use Rattle.next_moves.specs.Extends.{Extends}
use Rattle.next_moves.proofs.Sides.{column_made}
use Rattle.next_moves.proofs.Trades.{columns_slid}
use Rattle.next_moves.proofs.Traded.{columns_slid_step}
use Rattle.next_moves.proofs.tries.Tries.slide_columns.Goals as goal

pub push_columns_exchanged-requires-clause-step : goal.push_columns_exchanged-requires-clause-step
push_columns_exchanged-requires-clause-step c =
    let d = c.args.self.now.diagram in
    let shift = c.shift_before-by.ensures.shift ∙ ap (λ (n : ℕ). shift_before n c.args.c) c.size.ensures.size in
    let stands = c.shift_before-by.ensures.place ∙ ap (λ (n : ℕ). place_after_shift n c.args.c) c.size.ensures.size in
    columns_slid_step d c.args.c _ _ c.size.ensures.grid c.requires.column shift stands c.requires.legal

pub returns : goal.returns
returns c =
    let d = c.args.self.now.diagram in
    let shift = c.shift_before-by.ensures.shift ∙ ap (λ (n : ℕ). shift_before n c.args.c) c.size.ensures.size in
    let stands = c.shift_before-by.ensures.place ∙ ap (λ (n : ℕ). place_after_shift n c.args.c) c.size.ensures.size in
    record {
      offered =
          columns_slid d c.args.self.now.cap (size d) c.args.c c.args.list.now.items c.push_columns_exchanged.new.list.items c.requires.no_exchange
          (subst (λ (t : Try). Extends d c.args.self.now.cap (t ∷ []) c.args.list.now.items c.push_columns_exchanged.new.list.items)
          (column_made (λ q. SlideColumns q) (size d) c.args.c _ _ shift stands) c.push_columns_exchanged.ensures.offered);
      fits = c.push_columns_exchanged.ensures.fits;
    }
