use Rattle.std.proofs.Common.{◌∙◌, ◌∷◌, ◌<◌, ◌≤◌, [], ℕ, List, map, refl, arith, ap, sym, subst}
use Rattle.grid_core.specs.Diagram.{size}
use Rattle.next_moves.specs.Tries.{Try, shift_before, try_destabilisation}
use Rattle.next_moves.specs.Extends.{Extends}
use Rattle.next_moves.proofs.Extended.{extends_none}
use Rattle.next_moves.proofs.FewRows.{below_is, below_none}
use Rattle.next_moves.proofs.Sides.{block_made}
use Rattle.next_moves.proofs.tries.Tries.try_block.Goals as goal

pub returns-then-r-size : goal.returns-then-r-size
returns-then-r-size c =
    let d = c.args.self.now.diagram in
    let least = c.size-size.ensures.grid.least in
    let inside : c.args.r < size d = omega (arith, c.if-r-size.true, c.size-size.ensures.size) in
    let column = c.shift_before.ensures.shift ∙ ap (λ (n : ℕ). shift_before n c.args.c) c.size-size.ensures.size in
    let row = c.shift_before-then-r-size.ensures.shift ∙ ap (λ (n : ℕ). shift_before n c.args.r) c.size-size.ensures.size in
    let old = c.args.list.now.items in
    let new = c.destabilise_at.new.list.items in
    record {
      offered =
          subst (λ (rs : List ℕ). Extends d c.args.self.now.cap (map (try_destabilisation (size d) c.args.c) rs) old new)
          (sym (below_is (size d) c.args.r inside))
          (subst (λ (t : Try). Extends d c.args.self.now.cap (t ∷ []) old new)
          (block_made (size d) c.args.c c.args.r _ _ least c.requires.column inside column row) c.destabilise_at.ensures.offered);
      fits = c.destabilise_at.ensures.fits;
    }

pub returns-else-r-size : goal.returns-else-r-size
returns-else-r-size c =
    let d = c.args.self.now.diagram in
    let outside : size d ≤ c.args.r = omega (arith, c.if-r-size.false, c.size-size.ensures.size) in
    record {
      offered =
          subst (λ (rs : List ℕ). Extends d c.args.self.now.cap (map (try_destabilisation (size d) c.args.c) rs) c.args.list.now.items c.args.list.now.items)
          (sym (below_none (size d) c.args.r outside)) (extends_none d c.args.self.now.cap c.args.list.now.items c.args.list.now.items refl);
      fits = omega arith;
    }
