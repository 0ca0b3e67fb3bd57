use Rattle.number_search.proofs.Held.{linking_agrees, blocks_agree}
use Rattle.number_search.proofs.laws.where_nothing_is_told_the_numbers_agree.Goals as goal

pub returns-clause-linking : goal.returns-clause-linking
returns-clause-linking c = linking_agrees

pub returns-clause-blocks : goal.returns-clause-blocks
returns-clause-blocks c = blocks_agree
