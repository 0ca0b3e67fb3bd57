use Rattle.grid_moves.proofs.Joined.{joins_split, joins_append}
use Rattle.grid_laws.proofs.moves.joining_composes.Goals as goal

pub returns : goal.returns
returns c = λ front back d e. (joins_split front back d e, λ parts. joins_append front back d parts.0 e parts.1.0 parts.1.1)
