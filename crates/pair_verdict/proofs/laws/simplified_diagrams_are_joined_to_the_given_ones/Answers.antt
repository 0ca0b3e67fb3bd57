use Rattle.pair_verdict.proofs.SimplifiedPairs.{first_stands, second_stands, first_small, second_small, whole_joins}
use Rattle.pair_verdict.proofs.laws.simplified_diagrams_are_joined_to_the_given_ones.Goals as goal

pub returns-clause-first : goal.returns-clause-first
returns-clause-first c = λ p one two are fits. (first_stands p one two are fits, first_small p one two are fits)

pub returns-clause-second : goal.returns-clause-second
returns-clause-second c = λ p one two are fits. (second_stands p one two are fits, second_small p one two are fits)

pub returns-clause-whole : goal.returns-clause-whole
returns-clause-whole c = whole_joins
