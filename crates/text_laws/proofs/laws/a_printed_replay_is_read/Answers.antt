use Rattle.text_laws.proofs.PrintedTexts.{replay_printed, moves_replay, coloured_replay}
use Rattle.text_laws.proofs.laws.a_printed_replay_is_read.Goals as goal

pub returns-clause-moves : goal.returns-clause-moves
returns-clause-moves c = moves_replay

pub returns-clause-colours : goal.returns-clause-colours
returns-clause-colours c = coloured_replay

pub returns-clause-any : goal.returns-clause-any
returns-clause-any c = replay_printed
