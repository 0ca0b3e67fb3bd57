use Rattle.std.proofs.Common.{List, arith, map, sym, subst}
use Rattle.std.proofs.lemmas.List.{map-append}
use Rattle.grid_core.specs.Diagram.{size}
use Rattle.next_moves.specs.Tries.{Try, try_destabilisation}
use Rattle.next_moves.specs.Blocks.{if_below}
use Rattle.next_moves.specs.Extends.{Extends}
use Rattle.next_moves.proofs.Extended.{extends_then}
use Rattle.next_moves.proofs.tries.Tries.try_blocks.Goals as goal

pub returns : goal.returns
returns c =
    let d = c.args.self.now.diagram in
    let cap = c.args.self.now.cap in
    let f = try_destabilisation (size d) c.args.c in
    let first = if_below (size d) c.args.first in
    let second = if_below (size d) c.args.second in
    record {
      offered =
          subst (λ (ts : List Try). Extends d cap ts c.args.list.now.items c.try_block-2.new.list.items) (sym (map-append f first second))
          (extends_then d cap (map f first) (map f second) c.args.list.now.items c.try_block.new.list.items c.try_block-2.new.list.items
          c.try_block.ensures.offered c.try_block-2.ensures.offered);
      fits = omega (arith, c.try_block.ensures.fits, c.try_block-2.ensures.fits);
    }
