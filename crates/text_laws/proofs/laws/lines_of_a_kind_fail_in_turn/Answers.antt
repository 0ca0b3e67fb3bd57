use Rattle.text_laws.proofs.InTurn.{moves_turn, tidy_turn, steps_turn, colours_turn, table_turn}
use Rattle.text_laws.proofs.laws.lines_of_a_kind_fail_in_turn.Goals as goal

pub returns : goal.returns
returns c = record {
  moves = moves_turn;
  tidy = tidy_turn;
  steps = steps_turn;
  list = colours_turn;
  table = table_turn;
}
