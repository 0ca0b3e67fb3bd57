-- Equivalent diagrams have as many colourings.
use Rattle.std.proofs.Common.{◌≡◌, ◌∙◌, List, [], ◌∷◌, length, ap}
use Rattle.grid_core.specs.Diagram.{Diagram}
use Rattle.grid_moves.specs.declared.step.Move.{Move}
use Rattle.grid_moves.specs.Step.{Step}
use Rattle.grid_moves.specs.Joining.{Joins, Equivalent}
use Rattle.quandle_core.specs.Quandle.{Table, IsQuandle}
use Rattle.colour_rows.specs.Colouring.{IsColouring}
use Rattle.colour_list.specs.Listing.{colourings}
use Rattle.colour_laws.specs.Carried.{carried}
use Rattle.colour_laws.proofs.Listings.{listing}
use Rattle.quandle_core.proofs.Lengths.{equal_lengths}
use Rattle.colour_laws.proofs.Steps.{step_carries}

pub moved_lengths : (t : Table) → IsQuandle t → (d e : Diagram) (move : Move) → Step d move e → length (colourings t d) ≡ length (colourings t e)
moved_lengths t q d e move step =
    equal_lengths (IsColouring t d) (IsColouring t e) (carried t d move) (step_carries t q d e move step) (colourings t d) (colourings t e) (listing t d)
    (listing t e)

pub joined_lengths : (t : Table) → IsQuandle t → (moves : List Move) (d e : Diagram) → Joins d moves e → length (colourings t d) ≡ length (colourings t e)
joined_lengths t q [] d e joins = ap (λ f. length (colourings t f)) joins
joined_lengths t q (move ∷ moves) d e joins = moved_lengths t q d joins.0 move joins.1.0 ∙ joined_lengths t q moves joins.0 e joins.1.1

pub equivalent_lengths : (t : Table) → IsQuandle t → (d e : Diagram) → Equivalent d e → length (colourings t d) ≡ length (colourings t e)
equivalent_lengths t q d e equivalent = joined_lengths t q equivalent.0 d e equivalent.1
