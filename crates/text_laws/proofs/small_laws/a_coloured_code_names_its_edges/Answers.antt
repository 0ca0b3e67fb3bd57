use Rattle.text_laws.proofs.NamedEdges.{coloured_names}
use Rattle.text_laws.proofs.small_laws.a_coloured_code_names_its_edges.Goals as goal

pub returns : goal.returns
returns c = coloured_names
