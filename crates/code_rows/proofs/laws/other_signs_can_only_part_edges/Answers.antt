use Rattle.code_rows.proofs.AllJoined.{faultless_joined, joined_faultless}
use Rattle.code_rows.proofs.laws.other_signs_can_only_part_edges.Goals as goal

pub returns : goal.returns
returns c = λ rows loops one other few none one_of other_of is.
    ((λ same. faultless_joined rows loops other few none other_of same), λ joined. joined_faultless rows loops one other few none one_of other_of is joined)
