use Rattle.std.proofs.Common.{◌≡◌, true}
use Rattle.colour_rows.specs.Colouring.{IsColouring}
use Rattle.crossing_codes.specs.CodeColouring.{is_code_colouring}
use Rattle.crossing_codes.specs.EdgeColouring.{edge_colours}
use Rattle.code_grids.specs.Renaming.{IsRenaming}
use Rattle.code_grids.specs.Recoloured.{recoloured}
use Rattle.code_grids.proofs.Recolouring.{colourings_one_to_one}
use Rattle.code_grids.proofs.Composed.{composed}
use Rattle.code_grids.proofs.drawing.grid_of_code.Goals as goal

pub returns-clause-colourings : goal.returns-clause-colourings
returns-clause-colourings c = λ t q.
    let given = c.args.given.now in
    let grid = c.in-Ok.grid in
    let found = c.in_ok-found.found in
    let r = c.in-Some.renaming in
    let h : IsRenaming given found r = (rw c.in-Some.is at c.in_ok-renaming.ensures.some).0 in
    composed (IsColouring t grid) (λ e. is_code_colouring t found e ≡ true) (λ e. is_code_colouring t given e ≡ true)
    (edge_colours t grid) (recoloured r.edges) (c.in_ok-found.ensures.colourings t q) (colourings_one_to_one t given found r h)
