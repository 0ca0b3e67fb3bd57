use Rattle.colour_list.proofs.Cut.{listed_in_order}
use Rattle.quandle_laws.proofs.lists.the_complete_list_ascends.Goals as goal

pub returns : goal.returns
returns c = listed_in_order
