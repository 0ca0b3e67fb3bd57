use Rattle.text_laws.proofs.TryParts.{tries_in_order}
use Rattle.text_laws.proofs.small_laws.tries_stand_by_their_parts.Goals as goal

pub returns : goal.returns
returns c = tries_in_order
