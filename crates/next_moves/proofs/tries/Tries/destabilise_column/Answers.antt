use Rattle.std.proofs.Common.{◌≡◌, ◌∙◌, ℕ, arith, ap, sym}
use Rattle.grid_core.specs.Diagram.{Diagram}
use Rattle.grid_canon.specs.ShortTrades.{next}
use Rattle.next_moves.specs.Blocks.{row_of_both}
use Rattle.next_moves.proofs.FewRows.{one_row, two_rows}
use Rattle.next_moves.proofs.tries.Tries.destabilise_column.Goals as goal

pub returns-then-near-far : goal.returns-then-near-far
returns-then-near-far c =
    let d = c.args.self.now.diagram in
    let near = c.row_of_both-near.ensures ∙ ap (λ (e : Diagram). row_of_both e c.args.c) c.grid.ensures in
    let far =
    c.row_of_both-far.ensures ∙ ap (λ (e : Diagram). row_of_both e c.next.result) c.grid-2.ensures
    ∙ ap (λ (z : ℕ). row_of_both d z) (c.next.ensures.next ∙ ap (λ (n : ℕ). next n c.args.c) c.size.ensures.size) in
    record {
      offered =
          two_rows d c.args.self.now.cap c.args.c c.size.ensures.grid c.requires.column _ _ c.args.list.now.items c.try_blocks.new.list.items
          c.if-near-far.true (λ r not_near not_far. (λ e. not_near (e ∙ sym near), λ e. not_far (e ∙ sym far)))
          c.try_blocks.ensures.offered;
      fits = c.try_blocks.ensures.fits;
    }

pub returns-then-far-near : goal.returns-then-far-near
returns-then-far-near c =
    let d = c.args.self.now.diagram in
    let near = c.row_of_both-near.ensures ∙ ap (λ (e : Diagram). row_of_both e c.args.c) c.grid.ensures in
    let far =
    c.row_of_both-far.ensures ∙ ap (λ (e : Diagram). row_of_both e c.next.result) c.grid-2.ensures
    ∙ ap (λ (z : ℕ). row_of_both d z) (c.next.ensures.next ∙ ap (λ (n : ℕ). next n c.args.c) c.size.ensures.size) in
    record {
      offered =
          two_rows d c.args.self.now.cap c.args.c c.size.ensures.grid c.requires.column _ _ c.args.list.now.items c.try_blocks-then-far-near.new.list.items
          c.if-far-near.true (λ r not_far not_near. (λ e. not_near (e ∙ sym near), λ e. not_far (e ∙ sym far)))
          c.try_blocks-then-far-near.ensures.offered;
      fits = c.try_blocks-then-far-near.ensures.fits;
    }

pub returns-else-far-near : goal.returns-else-far-near
returns-else-far-near c =
    let d = c.args.self.now.diagram in
    let near = c.row_of_both-near.ensures ∙ ap (λ (e : Diagram). row_of_both e c.args.c) c.grid.ensures in
    let far =
    c.row_of_both-far.ensures ∙ ap (λ (e : Diagram). row_of_both e c.next.result) c.grid-2.ensures
    ∙ ap (λ (z : ℕ). row_of_both d z) (c.next.ensures.next ∙ ap (λ (n : ℕ). next n c.args.c) c.size.ensures.size) in
    let same : c.row_of_both-near.result ≡ c.row_of_both-far.result = omega (arith, c.if-near-far.false, c.if-far-near.false) in
    record {
      offered =
          one_row d c.args.self.now.cap c.args.c c.size.ensures.grid c.requires.column _ c.args.list.now.items c.try_block.new.list.items
          near (same ∙ far) c.try_block.ensures.offered;
      fits = omega (arith, c.try_block.ensures.fits);
    }
