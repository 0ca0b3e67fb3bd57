use Rattle.text_lines.specs.Lines.{text_of}
use Rattle.text_laws.proofs.ColoursRead.{replay_colours}
use Rattle.text_laws.proofs.laws.the_colours_of_a_replay_are_colours.Goals as goal

pub returns : goal.returns
returns c = λ bytes. replay_colours (text_of bytes)
