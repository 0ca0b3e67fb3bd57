use Rattle.grid_keys.proofs.Keys.{size_of_key}
use Rattle.grid_keys.proofs.laws.the_size_of_a_key_is_that_of_its_diagram.Goals as goal

pub returns : goal.returns
returns c = size_of_key
