use Rattle.code_rows.proofs.Parts.{same_number_joined, joined_same_number}
use Rattle.code_rows.proofs.laws.a_part_is_what_chains_join.Goals as goal

pub returns : goal.returns
returns c = λ xs j k have in_j in_k. ((λ same. same_number_joined xs have j k in_j in_k same), λ joined. joined_same_number xs have j k joined)
