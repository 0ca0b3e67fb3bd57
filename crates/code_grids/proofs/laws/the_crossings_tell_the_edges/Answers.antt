use Rattle.code_grids.proofs.Rearranged.{told}
use Rattle.code_grids.proofs.laws.the_crossings_tell_the_edges.Goals as goal

pub returns : goal.returns
returns c = told
