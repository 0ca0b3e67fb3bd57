use Rattle.std.proofs.Common.{◌≡◌, ◌∙◌, ℕ, subst, sym, ap, All}
use Rattle.arrayvec.specs.ArrayVec.{ArrayVec}
use Rattle.colour_rows.specs.Colouring.{IsColouring}
use Rattle.quandle_core.specs.Quandle.{Table}
use Rattle.colour_list.specs.Listing.{colourings, lists_of}
use Rattle.colour_weights.proofs.Countings.{all_colourings}
use Rattle.colour_weights.proofs.shadow_weighing.shadow_weights.Goals as goal

pub tally-requires-clause-complete : goal.tally-requires-clause-complete
tally-requires-clause-complete c =
    ap lists_of c.as_slice.ensures.value
    ∙ subst (λ (t : Table). lists_of c.in_ok-list.list.items ≡ colourings t c.args.grid.now) c.quandle.ensures c.in_ok-list.ensures.complete

pub tally-requires-clause-colourings : goal.tally-requires-clause-colourings
tally-requires-clause-colourings c =
    subst (All (λ (x : ArrayVec ℕ). IsColouring c.args.cocycle.now.quandle c.args.grid.now x.items)) (sym c.as_slice.ensures.value)
    (all_colourings (λ (x : ArrayVec ℕ). x.items) c.args.cocycle.now.quandle c.args.grid.now c.in_ok-list.list.items
    (subst (λ (t : Table). lists_of c.in_ok-list.list.items ≡ colourings t c.args.grid.now) c.quandle.ensures c.in_ok-list.ensures.complete))
