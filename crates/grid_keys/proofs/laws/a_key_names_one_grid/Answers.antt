use Rattle.std.proofs.Common.{ap}
use Rattle.grid_core.specs.Diagram.{Diagram}
use Rattle.grid_keys.specs.Key.{key_of}
use Rattle.grid_keys.proofs.Keys.{key_once}
use Rattle.grid_keys.proofs.laws.a_key_names_one_grid.Goals as goal

pub returns : goal.returns
returns c = λ d e gd ge. (key_once d e gd ge, λ same. ap (λ (f : Diagram). key_of f) same)
