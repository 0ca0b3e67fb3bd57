use Rattle.weight_laws.proofs.Lines.{heights_cancel}
use Rattle.weight_laws.proofs.linking.intersections_with_a_height_cancel.Goals as goal

pub returns : goal.returns
returns c = heights_cancel
