use Rattle.std.proofs.Common.{◌≡◌, ◌-◌, fold, reverse, not}
use Rattle.grid_core.specs.Diagram.{size}
use Rattle.grid_core.specs.Parts.{is_up}
use Rattle.colour_rows.specs.Colouring.{AreColours}
use Rattle.grid_braid.specs.Columns.{passed_back}
use Rattle.grid_braid.proofs.Ranges.{passing}
use Rattle.grid_braid.proofs.columns.recolour_back.Given as goal

abbrev pub invariant-loop-done : goal.invariant-loop-done
invariant-loop-done l =
    (l.colours ≡ fold (passed_back l.quandle) l.fn.colours (reverse
    (passing (λ c. not (is_up l.grid c)) (size l.grid - l.done) (size l.grid)))) × AreColours (size l.grid) l.quandle.order l.colours
