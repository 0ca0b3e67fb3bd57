use Rattle.colour_list.proofs.Choices.{most_colourings}
use Rattle.quandle_laws.proofs.lists.no_more_colourings_than_choices.Goals as goal

pub returns : goal.returns
returns c = most_colourings
