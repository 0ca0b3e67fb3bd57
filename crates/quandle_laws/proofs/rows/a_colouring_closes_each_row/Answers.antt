use Rattle.colour_rows.proofs.Colourings.{coloured, colouring}
use Rattle.quandle_laws.proofs.rows.a_colouring_closes_each_row.Goals as goal

pub returns : goal.returns
returns c = λ t d f. (coloured t d f, colouring t d f)
