use Rattle.colour_weights.proofs.Parted.{between_ends, before_begin, behind_end}
use Rattle.weight_laws.proofs.shadows.a_row_parts_two_regions.Goals as goal

pub returns-clause-between : goal.returns-clause-between
returns-clause-between c = λ t d f u r i q grid colouring lu lr low high. between_ends t d f u r i q grid colouring lu lr low high

pub returns-clause-before : goal.returns-clause-before
returns-clause-before c = λ t d f u r i q grid colouring lu lr le. before_begin t d f u r i q grid colouring lu lr le

pub returns-clause-behind : goal.returns-clause-behind
returns-clause-behind c = λ t d f u r i q grid colouring lu lr high le. behind_end t d f u r i q grid colouring lu lr high le
