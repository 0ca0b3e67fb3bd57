use Rattle.std.proofs.Common.{◌++◌, ◌∙◌, [], ◌∷◌, List, map, sym, ap, arith}
use Rattle.std.specs.List.{range_with_len}
use Rattle.std.proofs.lemmas.List.FromFn.{map-range_with_len_more}
use Rattle.colour_numbers.specs.declared.lane.Lane.{Lane}
use Rattle.colour_numbers.specs.Lanes.{lane}
use Rattle.colour_numbers.proofs.lane.lanes_of.Goals as goal

pub loop-row-preserved : goal.loop-row-preserved
loop-row-preserved c =
    c.in_ok-push.ensures.items
    ∙ (ap (λ (xs : List Lane). xs ++ c.of.result ∷ []) c.loop-row.invariant
    ∙ (ap (λ (e : Lane). map (lane c.args.grid.now) (range_with_len 0 c.loop-row.row) ++ e ∷ []) c.of.ensures
    ∙ sym (map-range_with_len_more (lane c.args.grid.now) 0 c.loop-row.row c.loop-row.row (omega arith))))
