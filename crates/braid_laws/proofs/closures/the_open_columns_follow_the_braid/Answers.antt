use Rattle.braid_laws.proofs.Feet.{heights}
use Rattle.braid_laws.proofs.closures.the_open_columns_follow_the_braid.Goals as goal

pub returns : goal.returns
returns c = heights
