use Rattle.grid_keys.proofs.Keys.{key_order}
use Rattle.grid_keys.proofs.laws.keys_are_ordered_by_size_and_then_as_the_diagrams.Goals as goal

pub returns : goal.returns
returns c = key_order
