-- Colourings of a diagram and of its code, one to one.
use Rattle.std.proofs.Common.{◌≡◌, true}
use Rattle.grid_core.specs.Diagram.{Diagram, IsGrid}
use Rattle.quandle_core.specs.Quandle.{Table, IsQuandle}
use Rattle.quandle_core.specs.Bijection.{IsBijection}
use Rattle.colour_rows.specs.Colouring.{IsColouring}
use Rattle.crossing_codes.specs.Code.{code}
use Rattle.crossing_codes.specs.CodeColouring.{is_code_colouring}
use Rattle.crossing_codes.specs.EdgeColouring.{edge_colours}
use Rattle.crossing_codes.proofs.ColourForth.{code_coloured, colouring_known}
use Rattle.crossing_codes.proofs.ColourBack.{column_colours, coded, coloured_back, edges_back}

pub one_to_one : (t : Table) (d : Diagram) → IsQuandle t → IsGrid d
    → IsBijection (IsColouring t d) (λ edges. is_code_colouring t (code d) edges ≡ true) (edge_colours t d)
one_to_one t d q grid = record {
  into = λ f colouring. code_coloured t d f grid q colouring;
  onto = λ e test. let known = coded t d e test in (column_colours d e, coloured_back t d e grid q known, edges_back t d e grid q known);
  one = λ f h colours_f colours_h e. colouring_known t d f h grid q colours_f colours_h e;
}
