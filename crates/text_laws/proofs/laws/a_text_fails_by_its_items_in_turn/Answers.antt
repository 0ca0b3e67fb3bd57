use Rattle.text_laws.proofs.ItemsInTurn.{front_turns, problem_turns, check_turns, replay_turns, colour_turns, close_turns, diagram_turns, pair_turns}
use Rattle.text_laws.proofs.ItemsInTurn.{braidcheck_turns, weight_turns}
use Rattle.text_laws.proofs.ItemsInTurn.{coloured_turns, list_turns, listed_turns, full_turns, different_turns}
use Rattle.text_laws.proofs.laws.a_text_fails_by_its_items_in_turn.Goals as goal

pub returns : goal.returns
returns c = record {
  problem_front = front_turns;
  problem = problem_turns;
  check = check_turns;
  replay = replay_turns;
  colour = colour_turns;
  close = close_turns;
  diagram = diagram_turns;
  pair = pair_turns;
  braidcheck = braidcheck_turns;
  weights = weight_turns;
  coloured = coloured_turns;
  list = list_turns;
  listed = listed_turns;
  full = full_turns;
  different = different_turns;
}
