use Rattle.std.proofs.Common.{◌<◌, ◌∙◌, sym, arith, rules}
use Rattle.std.specs.List.{range_with_len, list_all}
use Rattle.std.proofs.lemmas.Bool.{and_from, and_right}
use Rattle.grid_core.specs.Diagram.{size}
use Rattle.colour_rows.specs.Walk.{closes}
use Rattle.colour_rows.specs.Colouring.{are_colours}
use Rattle.colour_rows.proofs.Ranges.{all_range, fails_range}
use Rattle.colour_rows.proofs.colouring.is_colouring.Goals as goal

pub returns-then-not-closes : goal.returns-then-not-closes
returns-then-not-closes c =
    let p = closes c.args.quandle.now c.args.grid.now c.args.colours.now.items in
    let at : c.loop-row.row < size c.args.grid.now = omega (arith, c.loop-row-test.true, c.size-row-end.ensures.size) in
    sym (and_right (are_colours (size c.args.grid.now) c.args.quandle.now.order c.args.colours.now.items) (list_all p (range_with_len 0 (size c.args.grid.now)))
    (fails_range p (size c.args.grid.now) c.loop-row.row at (sym c.closes.ensures ∙ c.if-not-closes.true)))

pub returns : goal.returns
returns c =
    let p = closes c.args.quandle.now c.args.grid.now c.args.colours.now.items in
    sym (and_from (are_colours (size c.args.grid.now) c.args.quandle.now.order c.args.colours.now.items) (list_all p (range_with_len 0 (size c.args.grid.now)))
    (search rules)
    (all_range p (size c.args.grid.now) (λ k lt. c.loop-row.invariant k (omega (arith, c.size-row-end.ensures.size)))))
